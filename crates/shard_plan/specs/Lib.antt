-- the chunks of a text with their names
pub mod Items
-- what an `Items` keeps in memory
pub mod ItemFields
-- the shards of names, and how many items each has
pub mod Shards
-- what a `ShardPlan` keeps in memory
pub mod RegionFields
-- the first item with the same bytes
pub mod Leaders
-- pairs of a key and a number, sorted, and the leaders of a run of equal keys
pub mod Runs
-- names of which there are only three, and three of one key, for tests
pub mod FewNames
