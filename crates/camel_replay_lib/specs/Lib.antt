pub mod ProgramRun
pub mod Rounds
pub mod ThreadsOutput
