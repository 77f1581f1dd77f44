-- The folder and the sink in memory.
use Rattle.std.specs.Prelude.{ℕ, ◌+◌, ◌-◌, ◌^◌, min, ◌==◌, List, length, Option, None, if◌then◌else◌}
use Rattle.std.specs.List.{list_any}
use Rattle.ksql_outside.specs.Outside.{read_bytes}

-- a folder in memory: its files, the numbers of the reads that fail, the number of reads so far, and the names that
-- failed
pub record FolderState : Type 0 where
  pub files : List (List ℕ × List ℕ)
  pub failing : List ℕ
  pub reads : ℕ
  pub failed : List (List ℕ)

-- one more, up to the greatest u64
abbrev pub next_count : ℕ → ℕ
next_count n = min (n + 1) (2 ^ 64 - 1)

-- what the next read of this name gives, or nothing if it fails
abbrev pub next_answer : FolderState → List ℕ → Option (List ℕ)
next_answer folder name = if list_any (λ n. n == next_count folder.reads) folder.failing then None else read_bytes name folder.files

-- a sink in memory: its bytes, how many more it takes, the most that one write takes, and the number of failed writes
pub record SinkState : Type 0 where
  pub written : List ℕ
  pub free : ℕ
  pub most : ℕ
  pub faults : ℕ

-- the number of bytes of the piece that the next write takes
abbrev pub next_taken : SinkState → List ℕ → ℕ
next_taken sink piece = min (length piece) (min sink.most sink.free)
