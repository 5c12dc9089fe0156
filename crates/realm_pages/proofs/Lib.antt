-- how many pages a payload needs
pub mod Counting
-- how it stands in them
pub mod Parts
-- how long the head of a file is
pub mod HeadLength
-- which generation a text is that of
pub mod Preparing
-- what is wrong with a page, and what a good one adds
pub mod PageJudgements
-- what a file holds while one is put on it
pub mod Switches
-- runs of calls that only ask
pub mod Asks
-- pages that are read one after another
pub mod Pieces
-- what the front of a file tells of its head
pub mod FrontReadings
-- which file is chosen by the heads of both
pub mod Choices
-- what is found once the pages of the newest file are read
pub mod PagesFound
-- that pages hold one payload, or have one fault
pub mod PagesOnce
-- and two files one newest, or one damage
pub mod FilesOnce
-- and which is the newest while a generation is put on the other
pub mod NewestKept
