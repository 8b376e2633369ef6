use Rattle.std.proofs.Common.{◌≡◌, take}
use Rattle.std.specs.List.{flat_map}
use Rattle.ad_kit.specs.ObjectFile.{u32}
use Rattle.ad_generator.proofs.sections.word_bytes.Given as goal

-- the words so far have their bytes
abbrev pub invariant-loop-word : goal.invariant-loop-word
invariant-loop-word l = l.bytes.items ≡ flat_map u32 (take l.word-index l.words)
