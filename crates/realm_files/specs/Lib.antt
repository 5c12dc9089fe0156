-- what payloads and records mean
pub mod Meaning
-- records in a file
pub mod Rows
-- what two files stand for
pub mod Stands
-- files that stand for nothing
pub mod Damages
-- what is kept of the files
pub mod Keeping
-- what each kind of writing leaves
pub mod Writing
-- files that are synced before they are read
pub mod Syncing
-- what file A stood for before there was a second file
pub mod Alone
