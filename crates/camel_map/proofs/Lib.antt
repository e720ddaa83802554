mod Encoded
mod EncodedLists
mod EncodedSizes
mod EncodedUpdates
mod Joined
mod Received
mod Written
