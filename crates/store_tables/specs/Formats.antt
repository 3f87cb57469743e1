-- The format of a store.
use Rattle.wire.specs.declared.record_format.RecordFormat.{RecordFormat}
use Rattle.wire.specs.declared.record_format.RecordFormat.TheVariants.{Two}

-- the format in which stores are made, and which each store has while it runs
abbrev pub newest : RecordFormat
newest = Two
