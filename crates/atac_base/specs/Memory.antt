-- Shelves and sinks in memory: which of their calls fail. Calls of one kind are counted from 1.
use Rattle.std.specs.Prelude.{ℕ, ◌+◌, ◌-◌, ◌^◌, min, List, Contains}
use Rattle.atac_base.specs.declared.memory.MemoryShelf.{MemoryShelf}
use Rattle.atac_base.specs.declared.memory.MemorySink.{MemorySink}

-- how many calls of a kind were made, up to the greatest number of 64 bits, and which of them fail
pub record Calls : Type 0 where
  pub made : ℕ
  pub failing : List ℕ

abbrev pub with_one_more : Calls → Calls
with_one_more calls = record { made = min (calls.made + 1) (2 ^ 64 - 1); failing = calls.failing }

-- the last call is one of those that fail
abbrev pub IsListed : Calls → Type 0
IsListed calls = Contains calls.failing calls.made

abbrev pub fetches_of : MemoryShelf → Calls
fetches_of shelf = record { made = shelf.fetches; failing = shelf.fail_fetch.items }

abbrev pub keeps_of : MemoryShelf → Calls
keeps_of shelf = record { made = shelf.keeps; failing = shelf.fail_keep.items }

abbrev pub puts_of : MemorySink → Calls
puts_of sink = record { made = sink.puts; failing = sink.fail.items }
