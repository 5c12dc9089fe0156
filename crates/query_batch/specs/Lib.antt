-- the replies to lines that are refused
pub mod Replies
-- texts, one after another
pub mod Joined
-- what each line of a batch is answered
pub mod Answers
