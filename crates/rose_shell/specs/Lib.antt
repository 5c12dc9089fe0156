-- the numbers that the program ends with
pub mod Status
-- faults that are told, and their cause
pub mod Faults
-- bytes, cut into lines
pub mod Lines
-- lines that are answered together
pub mod Batches
-- the replies to a checkpoint, and to the lines of a group
pub mod Replies
-- what each line is answered
pub mod Answers
-- bytes that are given, whole or in part
pub mod Giving
-- one answer of a desk
pub mod Desk
-- turns of a session
pub mod Turns
-- the files over turns
pub mod Moments
-- a run over many lines
pub mod Session
-- what a crash leaves of one, counted by the commits
pub mod Prefixes
-- a part of a run
pub mod Loop
-- what is promised of the word `run`, and of `serve`
pub mod Running
-- the store's answer to a command, at the desk
pub mod AtDesk
-- what is promised of the word `audit`
pub mod Auditing
-- a certificate while it comes
pub mod Certificates
-- lines that are answered one by one
pub mod OneByOne
-- a part of that
pub mod Progress
-- what is promised of the word `follow`
pub mod Following
-- a follower's answer to a line
pub mod AtFollower
-- what is promised of the word `ship`
pub mod Shipping
-- what is promised of the word `certify`
pub mod Certifying
-- items of a certificate that are given
pub mod Items
-- what is promised of each command
pub mod Telling
-- runs one after another
pub mod Chains
