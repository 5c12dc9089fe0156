-- replies that are put together
mod Joinings
