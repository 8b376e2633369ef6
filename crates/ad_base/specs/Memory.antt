-- What is seen of files and of a sink that lie in memory, for tests.
use Rattle.std.specs.Prelude.{◌≡◌, ℕ, ◌-◌, ◌<◌, ◌≤◌, ◌⊎◌, ◌++◌, min, length, take, find, bytes_eq, Contains, List, Option, None, option_map, IfSome, Result, Ok, Err}
use Rattle.ad_base.specs.declared.files.Fetch.{Fetch}
use Rattle.ad_base.specs.declared.files.Fetch.TheVariants.{Failed, TooLarge, OutOfMemory}
use Rattle.ad_base.specs.declared.layout.TheConstants.{FILE_BYTES}
use Rattle.ad_base.specs.declared.mem_files.MemFile.{MemFile}
use Rattle.ad_base.specs.Count.{risen}
use Rattle.ad_base.specs.Outside.{asked_after}

-- files in memory: the files, the numbers of the calls that fail, the names asked for, how many calls
-- there were, and how many of them failed
pub record FilesInMemory : Type 0 where
  pub files : List MemFile
  pub fail : List ℕ
  pub asked : List (List ℕ)
  pub calls : ℕ
  pub faults : ℕ

-- the bytes of the first file of this name
abbrev pub bytes_of : List MemFile → List ℕ → Option (List ℕ)
bytes_of files name = option_map (λ f. f.bytes) (find (λ f. bytes_eq f.name name) files)

-- the next call fails: its number, counted from 1, is to fail, or no file has the name
abbrev pub FetchFails : FilesInMemory → List ℕ → Type 0
FetchFails m name = Contains m.fail (risen m.calls) ⊎ (bytes_of m.files name ≡ None)

-- which answer a fetch has: each but want of memory comes exactly where it says
abbrev pub FetchAnswers : {T : Type 0} → FilesInMemory → List ℕ → Result T Fetch → Type 0
FetchAnswers m name (Ok x) = (¬ FetchFails m name) × IfSome (bytes_of m.files name) (λ file. length file ≤ FILE_BYTES)
FetchAnswers m name (Err Failed) = FetchFails m name
FetchAnswers m name (Err TooLarge) = (¬ FetchFails m name) × IfSome (bytes_of m.files name) (λ file. FILE_BYTES < length file)
FetchAnswers m name (Err OutOfMemory) = Unit {0}

-- how many faults there were once a fetch gave its answer
abbrev pub faults_after : {T : Type 0} → Result T Fetch → ℕ → ℕ
faults_after (Ok x) faults = faults
faults_after (Err Failed) faults = risen faults
faults_after (Err TooLarge) faults = faults
faults_after (Err OutOfMemory) faults = faults

-- the files in memory once a fetch by this name gave its answer
abbrev pub after_fetch : {T : Type 0} → FilesInMemory → Result T Fetch → List ℕ → FilesInMemory
after_fetch m answer name = record m {
  asked = asked_after answer m.asked name;
  calls = risen m.calls;
  faults = faults_after answer m.faults;
}

-- a sink in memory: the bytes taken, for how many more there is room, how many one write takes at
-- most, the numbers of the writes that fail, how many writes there were, and how many of them failed
pub record SinkInMemory : Type 0 where
  pub taken : List ℕ
  pub room : ℕ
  pub most : ℕ
  pub fail : List ℕ
  pub calls : ℕ
  pub faults : ℕ

-- the next write fails: its number, counted from 1, is to fail, or no room is left
abbrev pub WriteFails : SinkInMemory → Type 0
WriteFails s = Contains s.fail (risen s.calls) ⊎ (s.room ≡ 0)

-- which answer a write has: it fails exactly there, and else takes as many bytes as it may
abbrev pub WriteAnswers : {E : Type 0} → SinkInMemory → List ℕ → Result ℕ E → Type 0
WriteAnswers s piece (Ok n) = (¬ WriteFails s) × (n ≡ min s.most (min s.room (length piece)))
WriteAnswers s piece (Err e) = WriteFails s

-- the sink in memory once a write of this piece gave its answer
abbrev pub after_write : {E : Type 0} → SinkInMemory → Result ℕ E → List ℕ → SinkInMemory
after_write s (Ok n) piece = record s { taken = s.taken ++ take n piece; room = s.room - n; calls = risen s.calls }
after_write s (Err e) piece = record s { calls = risen s.calls; faults = risen s.faults }
