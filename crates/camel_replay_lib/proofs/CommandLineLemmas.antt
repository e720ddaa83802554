-- What the matches of the command line hold is what its words say.
use Rattle.std.proofs.Common.{◌≡◌, ◌≢◌, ◌≤◌, ◌∙◌, ◌⊎◌, ℕ, List, true, Option, Some, None, IfSome, refl, ap, subst, inl, inr, codes}
use Rattle.camel_tbcd.specs.declared.profile.Profile.{Profile}
use Rattle.clap.proofs.OnLiterals.{clap_on_literals}
use Rattle.clap.proofs.WalkLemmas.{first_value-rows}
use Rattle.clap.specs.Words.{App, HasKind, HasMatchesOf, IsAmong, Text, fault_of, first_of, first_value}
use Rattle.clap.specs.Words.{found_of, is_simple, is_simple_and_free, kind_of}
use Rattle.clap.specs.declared.error.Error.{Error}
use Rattle.clap.specs.declared.error.kind.ErrorKind.{ErrorKind}
use Rattle.clap.specs.declared.error.kind.ErrorKind.TheVariants.{DisplayHelp, DisplayVersion, OutOfMemory}
use Rattle.clap.specs.declared.parser.matches.ArgMatches.{ArgMatches}
use Rattle.camel_replay_lib.specs.ProgramRun.{AsksForHelp, AsksForVersion, GivesNumber, HoldsLimit, HoldsProfile, HoldsThreads, LimitOf}
use Rattle.camel_replay_lib.specs.ProgramRun.{MayGiveNumber, ProfileOf, ThreadsOf, option_text, profile_number}
use Rattle.camel_replay_lib.specs.ProgramRun.{the_program, max_profile, max_threads}
use Rattle.camel_script_replay.specs.Output.{max_limit}

-- the program is simple, so `clap` says which matches every list of words has
program_is_simple : is_simple the_program ≡ true
unfolding clap_on_literals
program_is_simple = refl

module _ (words : List Text) (matches : ArgMatches) (has : HasMatchesOf the_program words matches) where
  -- what is said of an option that the matches hold is said of its text
  held : (Says : Option Text → Type 0) (name : Text) → Says (first_value (found_of matches) name) → Says (option_text name words)
  held Says name = subst Says (first_value-rows (found_of matches) name ∙ ap (first_of name) (has program_is_simple).0)

  pub LimitOf-held : (limit : ℕ) → HoldsLimit matches limit → LimitOf words limit
  LimitOf-held limit = held (λ given. GivesNumber max_limit given limit) (codes "limit")

  pub ThreadsOf-held : (threads : Option ℕ) → HoldsThreads matches threads → ThreadsOf words threads
  ThreadsOf-held threads = held (λ given. MayGiveNumber max_threads given threads) (codes "threads")

  pub ProfileOf-held : (profile : Profile) → HoldsProfile matches profile → ProfileOf words profile
  ProfileOf-held profile = held (λ given. GivesNumber max_profile given (profile_number profile)) (codes "profile")

-- what the words say is in its range
pub threads_in_range : (words : List Text) (threads : Option ℕ) → ThreadsOf words threads → IfSome threads (λ threads. (1 ≤ threads) × (threads ≤ max_threads))
threads_in_range words None given = tt
threads_in_range words (Some threads) given = (given.2.least, given.2.most)

pub limit_in_range : (words : List Text) (limit : ℕ) → LimitOf words limit → (1 ≤ limit) × (limit ≤ max_limit)
limit_in_range words limit given = (given.2.least, given.2.most)

-- the program is simple and free, so `clap` says which kinds of error every list of words may give
program_is_free : is_simple_and_free the_program ≡ true
unfolding clap_on_literals
program_is_free = refl

module _ (words : List Text) (app : App) (error : Error) (same : app ≡ the_program) (has : is_simple_and_free app ≡ true → HasKind (fault_of app words) error) where
  -- an error of another kind than out of memory is among those that the words may give
  answered : (kind : ErrorKind) → kind ≢ OutOfMemory → kind_of error ≡ kind → IsAmong kind (fault_of the_program words)
  answered kind other is_kind =
      let free : is_simple_and_free app ≡ true = rw same program_is_free in
      subst (λ (app : App). IsAmong kind (fault_of app words)) same (among (has free))
    where
      among : (kind_of error ≡ OutOfMemory) ⊎ IsAmong (kind_of error) (fault_of app words) → IsAmong kind (fault_of app words)
      among (inl lacks_memory) = absurd (other (cc (is_kind, lacks_memory)))
      among (inr found) = subst (λ kind. IsAmong kind (fault_of app words)) is_kind found

  pub AsksForHelp-answered : kind_of error ≡ DisplayHelp → AsksForHelp words
  AsksForHelp-answered = answered DisplayHelp (λ e. absurd (cc e))

  pub AsksForVersion-answered : kind_of error ≡ DisplayVersion → AsksForVersion words
  AsksForVersion-answered = answered DisplayVersion (λ e. absurd (cc e))
