-- The fields of commands, and the ranges of their numbers. How a command is carried out enters no
-- definition of an outcome, a text or a state. All rules here are this project's own.
use Rattle.std.specs.Prelude.{ℕ, ◌^◌, ◌<◌, ◌≤◌, ⊤}
use Rattle.sd_base.specs.Generator.{bulk_name}
use Rattle.sd_base.specs.Names.{IsName}
use Rattle.sd_base.specs.declared.how.How.{How}
use Rattle.sd_base.specs.declared.limits.TheConstants.{MAX_WORKERS, MAX_SEGMENT, MIN_BATCH, MAX_BATCH, MAX_SHARDS, MAX_BLOCKS}
use Rattle.sd_base.specs.declared.raw_params.RawParams.{RawParams}
use Rattle.sd_base.specs.declared.words.Quiet.TheVariants.{Plan, Init, List, Restore, Drop, Refs, Audit}
use Rattle.sd_base.specs.declared.words.Command.{Command}
use Rattle.sd_base.specs.declared.words.Command.TheVariants.{Quiet, Ingest, Bulk}

-- a number of workers
abbrev pub AreWorkers : ℕ → Type 0
AreWorkers n = (1 ≤ n) × (n ≤ MAX_WORKERS)

-- a number of bytes of a segment
abbrev pub IsSegment : ℕ → Type 0
IsSegment n = (1 ≤ n) × (n ≤ MAX_SEGMENT)

-- the numbers are in their ranges
pub record IsHow (how : How) : Type 0 where
  pub workers : AreWorkers how.workers
  pub segment : IsSegment how.segment
  pub batch : (MIN_BATCH ≤ how.batch) × (how.batch ≤ MAX_BATCH)
  pub shards : (1 ≤ how.shards) × (how.shards ≤ MAX_SHARDS)

-- a seed of `bulk`
abbrev pub IsSeed : ℕ → Type 0
IsSeed n = n < 2 ^ 64

-- a number of blocks of `bulk`
abbrev pub AreBlocks : ℕ → Type 0
AreBlocks n = (1 ≤ n) × (n ≤ MAX_BLOCKS)

-- the numbers with which a command is carried out are in their ranges
abbrev pub HasNumbersInRange : Command → Type 0
HasNumbersInRange (Quiet (Plan raw workers segment)) = AreWorkers workers × IsSegment segment
HasNumbersInRange (Quiet (Init raw)) = ⊤
HasNumbersInRange (Quiet List) = ⊤
HasNumbersInRange (Quiet (Restore name)) = ⊤
HasNumbersInRange (Quiet (Drop name)) = ⊤
HasNumbersInRange (Quiet Refs) = ⊤
HasNumbersInRange (Quiet Audit) = ⊤
HasNumbersInRange (Ingest name how) = IsHow how
HasNumbersInRange (Bulk seed blocks how) = IsSeed seed × AreBlocks blocks × IsHow how

-- the name that a command gives a session or finds it by, if it does, is one of a session
abbrev pub HasSessionName : Command → Type 0
HasSessionName (Quiet (Plan raw workers segment)) = ⊤
HasSessionName (Quiet (Init raw)) = ⊤
HasSessionName (Quiet List) = ⊤
HasSessionName (Quiet (Restore name)) = IsName name
HasSessionName (Quiet (Drop name)) = IsName name
HasSessionName (Quiet Refs) = ⊤
HasSessionName (Quiet Audit) = ⊤
HasSessionName (Ingest name how) = IsName name
HasSessionName (Bulk seed blocks how) = IsName (bulk_name seed blocks)

-- the numbers fit a `RawParams`
pub record AreRawParams (raw : RawParams) : Type 0 where
  pub polynomial : raw.polynomial < 2 ^ 64
  pub bits : raw.bits < 2 ^ 32
  pub target : raw.target < 2 ^ 32
  pub min : raw.min < 2 ^ 32
  pub max : raw.max < 2 ^ 32

-- the parameters of a command, if it has some, fit a `RawParams`
abbrev pub HasRawParams : Command → Type 0
HasRawParams (Quiet (Plan raw workers segment)) = AreRawParams raw
HasRawParams (Quiet (Init raw)) = AreRawParams raw
HasRawParams (Quiet List) = ⊤
HasRawParams (Quiet (Restore name)) = ⊤
HasRawParams (Quiet (Drop name)) = ⊤
HasRawParams (Quiet Refs) = ⊤
HasRawParams (Quiet Audit) = ⊤
HasRawParams (Ingest name how) = ⊤
HasRawParams (Bulk seed blocks how) = ⊤
