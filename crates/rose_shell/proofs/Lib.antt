-- a store keeps its terms at the desk
mod Stores
-- the store's answers are those of a desk
mod AtDesk
-- an answer is one step
mod Steps
-- bytes are given call by call
mod Gifts
-- bytes are cut into lines, some bytes more at a time
mod Cuts
-- what is kept of a line
mod Keeps
-- turns are put together
mod Turns
-- lines are answered one after another
mod Runs
-- one line or batch is answered, and its reply given
mod OneTurn
-- a line is treated by its length
mod Treatments
-- what follows of outcomes
mod Results
-- the lines of a batch are answered together
mod Batches
-- a chunk of the input is fed line by line
mod Chunks
-- the loop goes on from take to take
mod Takes
-- the loop ends
mod Exits
-- what the status of its end says
mod Ends
-- what a crash leaves is counted by the changes
mod Prefixes
-- lines are answered one by one
mod LinesAlone
-- so from take to take, to the end
mod TakesAlone
-- what a follower answers is one step
mod Followers
-- sessions of the store
mod Sessions
-- a session behind which an open group is given up
mod GivenUp
-- a session that begins after the files were read
mod Openings
-- how a run ends that counts no fault
mod Rises
-- files that were synced before they were read are stable
mod Syncs
-- what is told where a store isn't started
mod Unstarted
-- frames are given one after another
mod GivenFrames
-- items of a certificate are given one after another
mod GivenItems
-- and so are those of changes
mod GivenChanges
-- each outcome of a line is a follower's answer
mod AtFollower
-- lines, frames and items that are given after nothing but questions of the files
mod Tellings
-- a certificate comes, some bytes and some lines at a time
mod Certificates
-- the input is taken for an audit, and its reply given
mod Audits
-- each run goes on from what a crash of the one before has left
mod Chains
