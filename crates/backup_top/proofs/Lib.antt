-- runs, put together from what the parts of a command do
mod Runs
-- a run of `plan`
mod Plans
-- a word and its flaw: a word without one sets a key that no earlier word sets, so there are no
-- more of them than keys
mod KeysFlaws
-- what one more word without a flaw changes of the parameters that words set
mod KeysValues
-- what std says of a word that is cut at its first `=`
mod KeysSplit
-- what std says of a text that spells a number
mod KeysNumbers
-- the names of sessions are ASCII
mod AsciiNames
-- the rows of `list`
mod Rows
-- the rows of `refs`
mod ReferenceRows
-- the digits of a name are ASCII
mod AsciiDigits
-- a store is opened, whatever its files hold and if they hold a state
mod Openings
-- a run of `list` or of `refs`
mod Lists
-- a run of `audit`
mod Audits
-- a run of `init`
mod Inits
-- a run of `restore`
mod Restores
-- a run of `drop`
mod Drops
-- commands that read nothing do not end as a failed read
mod Unread
-- a run over devices in memory
mod InMemory
-- a run of `ingest`
mod Ingests
-- a run of `bulk`, from one of `ingest`
mod Bulks
-- the bytes of the name of the session of `bulk`, put together
mod BulkNames
