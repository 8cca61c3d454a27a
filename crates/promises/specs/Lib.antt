-- The words in which the promises are made.
pub mod Answers
pub mod Cases
pub mod Blocks
pub mod Fields
pub mod Bare
pub mod Calls
pub mod Told
pub mod Short
pub mod Order
pub mod Runs
pub mod Heights
pub mod Slated
pub mod Even
pub mod Quality
pub mod Reels
pub mod Night
pub mod Why
