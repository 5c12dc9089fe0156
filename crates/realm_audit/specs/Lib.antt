-- the lines of a certificate, and their texts
pub mod Items
-- when a line holds, and where it leads
pub mod Audits
-- the verdict on a text
pub mod Verdicts
-- lines that close a change, and lines that count
pub mod Facts
-- what the items of a sound text tell
pub mod SoundLists
-- paths in the place of pieces
pub mod Redraws
-- originals in a map
pub mod ById
-- where shares stand
pub mod Shelves
-- ranges of shares
pub mod Ranges
-- the shelves of pieces that reach a box
pub mod Windows
-- lists of shares that change
pub mod ShareChanges
-- pieces and points in violations
pub mod Clashes
-- boxes around pieces
pub mod Groups
-- what a kept drawing is like
pub mod Kept
-- tokens and numbers
pub mod Tokens
-- items from words and numbers
pub mod Readings
-- what comes of a line
pub mod Outcomes
-- how far an auditor has come
pub mod Progresses
