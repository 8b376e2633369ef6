use Rattle.std.proofs.Common.{◌≡◌, ◌++◌, drop, map}
use Rattle.ad_reloc.specs.Image.{word_of}
use Rattle.ad_reloc.proofs.linking.Linking.table_words.Given as goal

-- the words so far and those of the symbols that are left are those of all
abbrev pub invariant-loop-k : goal.invariant-loop-k
invariant-loop-k l = record {
  same : l.symbols ≡ l.self.table;
  made : l.words.items ++ map (word_of l.self.object.now l.self.layout.now l.self.fixed) (drop l.k l.symbols) ≡ map (word_of l.self.object.now l.self.layout.now l.self.fixed) l.symbols;
}
