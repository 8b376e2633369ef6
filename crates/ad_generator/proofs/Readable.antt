-- The files of the modules can be written and are read.
use Rattle.std.proofs.Common.{◌≡◌, ℕ, ◌^◌, ◌<◌, ◌≤◌, ◌==◌, false, true, inl, inr, List, [], ◌∷◌, length, length-append, refl, arith, rules, lit<, lit≤}
use Rattle.std.specs.Prelude.{◌&&◌, ◌+◌, ◌||◌, Bool, codes, not, pos}
use Rattle.std.specs.List.{All, AllPairs, list_all, list_any, slice_index_or}
use Rattle.std.proofs.lemmas.List.Elements.{All-from_recursion, All-nil}
use Rattle.std.proofs.lemmas.Bool.{and_parts}
use Rattle.std.proofs.lemmas.List.Kept.{AllPairs-cons}
use Rattle.std.proofs.lemmas.List.Sums.{AllPass-from_list_all}
use Rattle.ad_base.specs.declared.layout.TheConstants.{FILE_BYTES}
use Rattle.ad_elf.specs.declared.elf.TheConstants.{NAME_BYTES, SHF_COMPRESSED, SHF_TLS, SHT_PROGBITS, ZERO_BYTES}
use Rattle.ad_elf.specs.File.{has_flag}
use Rattle.ad_elf.specs.Refusals.{IsObject}
use Rattle.ad_elf.specs.Relocation.{width}
use Rattle.ad_kit.specs.ObjectFile.{find_place, header_of, headers_behind, headers_of, is_local, names_of, object_file, padded, rela_header, relas_bytes, sections_bytes, strings, symbols_bytes, symbols_header, used}
use Rattle.ad_kit.specs.ReadBack.{AreFit, IsPlaced, IsReadable, IsRelaFit, IsRelaReadable, IsSectionFit, IsSectionReadable, IsSymbolFit, is_kept}
use Rattle.ad_kit.specs.Writable.{HasNoZero, IsWritable, powers}
use Rattle.ad_kit.specs.declared.object.KitRela.{KitRela}
use Rattle.ad_kit.specs.declared.object.KitSection.{KitSection}
use Rattle.ad_kit.specs.declared.object.KitSymbol.{KitSymbol}
use Rattle.ad_kit.proofs.Readable.{IsObject-written}
use Rattle.ad_parts.specs.Ends.{next}
use Rattle.ad_generator.specs.Modules.{Module, addresses, cnt, cnt_text, cnt_words, dev, dev_text, dev_words, exported, file, label, local_function, local_object, modules, object, service, sum, sum_words, tab, tab_addresses, tab_text, tab_words, text, zeros}

-- what holds of each module
pub each_module : (P : Module → Type 0) → P sum → P cnt → P dev → P tab → All P modules
each_module P a b c d = All-from_recursion P modules (a, (b, (c, (d, tt))))

-- Whether local symbols come first, as a test.
abbrev follows : KitSymbol → KitSymbol → Bool
follows x y = is_local x || not (is_local y)

abbrev are_local_first : List KitSymbol → Bool
are_local_first [] = true
are_local_first (x ∷ ys) = list_all (follows x) ys && are_local_first ys

abbrev Follows : KitSymbol → KitSymbol → Type 0
Follows x y = is_local y ≡ true → is_local x ≡ true

follows-is : (a b : Bool) → (a || not b) ≡ true → b ≡ true → a ≡ true
follows-is true b test e = refl
follows-is false true test e = test
follows-is false false test e = e

locals_first : (ys : List KitSymbol) → are_local_first ys ≡ true → AllPairs Follows ys
locals_first [] test = λ i j d less below. absurd (omega arith)
locals_first (x ∷ ys) test =
    let parts = and_parts (list_all (follows x) ys) (are_local_first ys) test in
    AllPairs-cons Follows x ys (λ k d below. follows-is (is_local x) (is_local (slice_index_or ys k d)) (AllPass-from_list_all (follows x) ys parts.0 k d below)) (locals_first ys parts.1)

abbrev IsAligned : KitSection → Type 0
IsAligned s = list_any (λ a. a == s.align) powers ≡ true

abbrev IsNumbered : KitRela → Type 0
IsNumbered r = r.symbol < 2 ^ 32

abbrev AreNumbered : KitSection → Type 0
AreNumbered s = All IsNumbered s.relas

abbrev IsSectionNamed : KitSection → Type 0
IsSectionNamed s = HasNoZero s.name

abbrev IsSymbolNamed : KitSymbol → Type 0
IsSymbolNamed y = HasNoZero y.name

abbrev IsModuleWritable : Module → Type 0
IsModuleWritable m = IsWritable m.sections m.symbols

writable-sum : IsModuleWritable sum
writable-sum = record {
  aligned = All-from_recursion IsAligned sum.sections (refl, tt);
  symbols = All-from_recursion AreNumbered sum.sections (All-nil IsNumbered, tt);
  section_names = All-from_recursion IsSectionNamed sum.sections (refl, tt);
  symbol_names = All-from_recursion IsSymbolNamed sum.symbols (refl, tt);
  short_names = lit< tt;
  locals_first = locals_first sum.symbols refl;
  few = lit< tt;
}

writable-cnt : IsModuleWritable cnt
writable-cnt = record {
  aligned = All-from_recursion IsAligned cnt.sections (refl, (refl, tt));
  symbols = All-from_recursion AreNumbered cnt.sections (All-from_recursion IsNumbered cnt_text.relas (lit< tt, (lit< tt, tt)), (All-nil IsNumbered, tt));
  section_names = All-from_recursion IsSectionNamed cnt.sections (refl, (refl, tt));
  symbol_names = All-from_recursion IsSymbolNamed cnt.symbols (refl, (refl, (refl, tt)));
  short_names = lit< tt;
  locals_first = locals_first cnt.symbols refl;
  few = lit< tt;
}

writable-dev : IsModuleWritable dev
writable-dev = record {
  aligned = All-from_recursion IsAligned dev.sections (refl, tt);
  symbols = All-from_recursion AreNumbered dev.sections (All-from_recursion IsNumbered dev_text.relas (lit< tt, (lit< tt, tt)), tt);
  section_names = All-from_recursion IsSectionNamed dev.sections (refl, tt);
  symbol_names = All-from_recursion IsSymbolNamed dev.symbols (refl, (refl, (refl, tt)));
  short_names = lit< tt;
  locals_first = locals_first dev.symbols refl;
  few = lit< tt;
}

writable-tab : IsModuleWritable tab
writable-tab = record {
  aligned = All-from_recursion IsAligned tab.sections (refl, (refl, tt));
  symbols = All-from_recursion AreNumbered tab.sections
      (All-from_recursion IsNumbered tab_text.relas (lit< tt, (lit< tt, tt)), (All-from_recursion IsNumbered tab_addresses.relas (lit< tt, (lit< tt, tt)), tt));
  section_names = All-from_recursion IsSectionNamed tab.sections (refl, (refl, tt));
  symbol_names = All-from_recursion IsSymbolNamed tab.symbols (refl, (refl, (refl, (refl, (refl, tt)))));
  short_names = lit< tt;
  locals_first = locals_first tab.symbols refl;
  few = lit< tt;
}

pub each_writable : All IsModuleWritable modules
each_writable = each_module IsModuleWritable writable-sum writable-cnt writable-dev writable-tab

-- The sections of each kind are read: one of the program with a short name, and one of few zeros.
program-readable : (s : KitSection) → s.typ ≡ SHT_PROGBITS → has_flag s.flags SHF_TLS ≡ false → has_flag s.flags SHF_COMPRESSED ≡ false → length s.name + 5 ≤ NAME_BYTES → IsSectionReadable s
program-readable s program shared plain short = record {
  no_symbols = λ e. omega arith;
  no_relas = λ e. omega arith;
  no_rels = λ e. omega arith;
  loaded = λ e. record { typ = inl program; shared = shared; plain = plain };
  zeros = λ e. omega arith;
  name = omega arith;
  rela_name = λ e. omega (arith, length-append (codes ".rela") s.name);
  relocated = λ kept e. absurd (omega arith);
}

text-readable : (words : List ℕ) (relas : List KitRela) → IsSectionReadable (text words relas)
text-readable words relas = program-readable (text words relas) refl refl refl (lit≤ tt)

addresses-readable : (relas : List KitRela) → IsSectionReadable (addresses relas)
addresses-readable relas = program-readable (addresses relas) refl refl refl (lit≤ tt)

zeros-readable : (size : ℕ) → size ≤ ZERO_BYTES → IsSectionReadable (zeros size)
zeros-readable size few = record {
  no_symbols = λ e. omega arith;
  no_relas = λ e. omega arith;
  no_rels = λ e. omega arith;
  loaded = λ e. record { typ = inr (inl refl); shared = refl; plain = refl };
  zeros = λ e. few;
  name = lit≤ tt;
  rela_name = λ e. lit≤ tt;
  relocated = λ kept e. refl;
}

-- The symbols that are defined lie in their sections.
abbrev ArePlaced : Module → Type 0
ArePlaced m = All (IsPlaced m.sections m.symbols) m.symbols

each_placed : All ArePlaced modules
unfolding find_place header_of headers_behind headers_of names_of next padded rela_header relas_bytes sections_bytes strings symbols_bytes symbols_header used
each_placed =
    each_module ArePlaced
    (All-from_recursion (IsPlaced sum.sections sum.symbols) sum.symbols (inr (inr (lit< tt, lit≤ tt)), tt))
    (All-from_recursion (IsPlaced cnt.sections cnt.symbols) cnt.symbols (inr (inr (lit< tt, lit≤ tt)), (inr (inr (lit< tt, lit≤ tt)), (inr (inr (lit< tt, lit≤ tt)), tt))))
    (All-from_recursion (IsPlaced dev.sections dev.symbols) dev.symbols (inr (inr (lit< tt, lit≤ tt)), (inl refl, (inl refl, tt))))
    (All-from_recursion (IsPlaced tab.sections tab.symbols) tab.symbols
    (inr (inr (lit< tt, lit≤ tt)), (inr (inr (lit< tt, lit≤ tt)), (inr (inr (lit< tt, lit≤ tt)), (inr (inr (lit< tt, lit≤ tt)), (inr (inr (lit< tt, lit≤ tt)), tt))))))

abbrev HasShortName : KitSymbol → Type 0
HasShortName y = length y.name ≤ NAME_BYTES

abbrev AreRelasReadable : List KitSymbol → KitSection → Type 0
AreRelasReadable ys s = is_kept s ≡ true → All (IsRelaReadable ys s) s.relas

abbrev IsModuleReadable : Module → Type 0
IsModuleReadable m = IsReadable m.sections m.symbols

readable-sum : IsModuleReadable sum
unfolding width
readable-sum = record {
  sections = All-from_recursion IsSectionReadable sum.sections (text-readable sum_words [], tt);
  names = All-from_recursion HasShortName sum.symbols (lit≤ tt, tt);
  places = each_placed 0 sum (lit< tt);
  relas = All-from_recursion (AreRelasReadable sum.symbols) sum.sections ((λ kept. All-nil (IsRelaReadable sum.symbols (text sum_words []))), tt);
}

readable-cnt : IsModuleReadable cnt
unfolding width
readable-cnt = record {
  sections = All-from_recursion IsSectionReadable cnt.sections (text-readable cnt_words cnt_text.relas, (zeros-readable 8 (lit≤ tt), tt));
  names = All-from_recursion HasShortName cnt.symbols (lit≤ tt, (lit≤ tt, (lit≤ tt, tt)));
  places = each_placed 1 sum (lit< tt);
  relas = All-from_recursion (AreRelasReadable cnt.symbols) cnt.sections (
    (λ kept. All-from_recursion (IsRelaReadable cnt.symbols cnt_text) cnt_text.relas (record { symbol = lit≤ tt; field = lit≤ tt }, (record { symbol = lit≤ tt; field = lit≤ tt }, tt))),
    ((λ kept. All-nil (IsRelaReadable cnt.symbols (zeros 8))), tt),
  );
}

readable-dev : IsModuleReadable dev
unfolding width
readable-dev = record {
  sections = All-from_recursion IsSectionReadable dev.sections (text-readable dev_words dev_text.relas, tt);
  names = All-from_recursion HasShortName dev.symbols (lit≤ tt, (lit≤ tt, (lit≤ tt, tt)));
  places = each_placed 2 sum (lit< tt);
  relas = All-from_recursion (AreRelasReadable dev.symbols) dev.sections (
    (λ kept. All-from_recursion (IsRelaReadable dev.symbols dev_text) dev_text.relas (record { symbol = lit≤ tt; field = lit≤ tt }, (record { symbol = lit≤ tt; field = lit≤ tt }, tt))),
    tt,
  );
}

readable-tab : IsModuleReadable tab
unfolding width
readable-tab = record {
  sections = All-from_recursion IsSectionReadable tab.sections (text-readable tab_words tab_text.relas, (addresses-readable tab_addresses.relas, tt));
  names = All-from_recursion HasShortName tab.symbols (lit≤ tt, (lit≤ tt, (lit≤ tt, (lit≤ tt, (lit≤ tt, tt)))));
  places = each_placed 3 sum (lit< tt);
  relas = All-from_recursion (AreRelasReadable tab.symbols) tab.sections (
    (λ kept. All-from_recursion (IsRelaReadable tab.symbols tab_text) tab_text.relas (record { symbol = lit≤ tt; field = lit≤ tt }, (record { symbol = lit≤ tt; field = lit≤ tt }, tt))),
    ((λ kept. All-from_recursion (IsRelaReadable tab.symbols tab_addresses) tab_addresses.relas (record { symbol = lit≤ tt; field = lit≤ tt }, (record { symbol = lit≤ tt; field = lit≤ tt }, tt))), tt),
  );
}

pub each_readable : All IsModuleReadable modules
each_readable = each_module IsModuleReadable readable-sum readable-cnt readable-dev readable-tab

-- The numbers fit their fields.
abbrev AreRelasFit : KitSection → Type 0
AreRelasFit s = All IsRelaFit s.relas

abbrev IsModuleFit : Module → Type 0
IsModuleFit m = AreFit m.sections m.symbols

rela-fit : (r : KitRela) → r.offset < 2 ^ 64 → r.typ < 2 ^ 32 → r.addend ≡ pos 0 → IsRelaFit r
rela-fit r low known none = record { offset = low; typ = known; addend = rw none (search rules) }

-- So do those of the symbols of each kind.
exported-fit : (name : List ℕ) (size : ℕ) → size < 2 ^ 64 → IsSymbolFit (exported name size)
exported-fit name size low = record { info = lit< tt; shndx = lit< tt; value = lit< tt; size = low }

function-fit : (name : List ℕ) (at size : ℕ) → at < 2 ^ 64 → size < 2 ^ 64 → IsSymbolFit (local_function name at size)
function-fit name at size near low = record { info = lit< tt; shndx = lit< tt; value = near; size = low }

object-fit : (name : List ℕ) (size : ℕ) → size < 2 ^ 64 → IsSymbolFit (local_object name size)
object-fit name size low = record { info = lit< tt; shndx = lit< tt; value = lit< tt; size = low }

label-fit : (name : List ℕ) → IsSymbolFit (label name)
label-fit name = record { info = lit< tt; shndx = lit< tt; value = lit< tt; size = lit< tt }

service-fit : (name : List ℕ) → IsSymbolFit (service name)
service-fit name = record { info = lit< tt; shndx = lit< tt; value = lit< tt; size = lit< tt }

-- The files are short.
abbrev pub IsSmall : Module → Type 0
IsSmall m = length (file m) ≤ FILE_BYTES

pub each_small : All IsSmall modules
unfolding find_place header_of headers_behind headers_of names_of next object_file padded rela_header relas_bytes sections_bytes strings symbols_bytes symbols_header used
each_small = each_module IsSmall (lit≤ tt) (lit≤ tt) (lit≤ tt) (lit≤ tt)

fit-sum : IsModuleFit sum
fit-sum = record {
  sections = All-from_recursion IsSectionFit sum.sections (record { typ = lit< tt; flags = lit< tt; size = lit< tt }, tt);
  relas = All-from_recursion AreRelasFit sum.sections (All-nil IsRelaFit, tt);
  symbols = All-from_recursion IsSymbolFit sum.symbols (exported-fit _ _ (lit< tt), tt);
  file = omega (arith, each_small 0 sum (lit< tt));
}

fit-cnt : IsModuleFit cnt
fit-cnt = record {
  sections = All-from_recursion IsSectionFit cnt.sections (record { typ = lit< tt; flags = lit< tt; size = lit< tt }, (record { typ = lit< tt; flags = lit< tt; size = lit< tt }, tt));
  relas = All-from_recursion AreRelasFit cnt.sections
      (All-from_recursion IsRelaFit cnt_text.relas (rela-fit _ (lit< tt) (lit< tt) refl, (rela-fit _ (lit< tt) (lit< tt) refl, tt)), (All-nil IsRelaFit, tt));
  symbols = All-from_recursion IsSymbolFit cnt.symbols (object-fit _ _ (lit< tt), (label-fit _, (exported-fit _ _ (lit< tt), tt)));
  file = omega (arith, each_small 1 sum (lit< tt));
}

fit-dev : IsModuleFit dev
fit-dev = record {
  sections = All-from_recursion IsSectionFit dev.sections (record { typ = lit< tt; flags = lit< tt; size = lit< tt }, tt);
  relas = All-from_recursion AreRelasFit dev.sections
      (All-from_recursion IsRelaFit dev_text.relas (rela-fit _ (lit< tt) (lit< tt) refl, (rela-fit _ (lit< tt) (lit< tt) refl, tt)), tt);
  symbols = All-from_recursion IsSymbolFit dev.symbols (exported-fit _ _ (lit< tt), (service-fit _, (service-fit _, tt)));
  file = omega (arith, each_small 2 sum (lit< tt));
}

fit-tab : IsModuleFit tab
fit-tab = record {
  sections = All-from_recursion IsSectionFit tab.sections (record { typ = lit< tt; flags = lit< tt; size = lit< tt }, (record { typ = lit< tt; flags = lit< tt; size = lit< tt }, tt));
  relas = All-from_recursion AreRelasFit tab.sections (
    All-from_recursion IsRelaFit tab_text.relas (rela-fit _ (lit< tt) (lit< tt) refl, (rela-fit _ (lit< tt) (lit< tt) refl, tt)),
    (All-from_recursion IsRelaFit tab_addresses.relas (rela-fit _ (lit< tt) (lit< tt) refl, (rela-fit _ (lit< tt) (lit< tt) refl, tt)), tt),
  );
  symbols = All-from_recursion IsSymbolFit tab.symbols (object-fit _ _ (lit< tt), (label-fit _, (function-fit _ _ _ (lit< tt) (lit< tt), (function-fit _ _ _ (lit< tt) (lit< tt), (exported-fit _ _ (lit< tt), tt)))));
  file = omega (arith, each_small 3 sum (lit< tt));
}

-- So the file of each module is that of its object.
abbrev pub HasObject : Module → Type 0
HasObject m = IsObject (file m) (object m)

each_fit : All IsModuleFit modules
each_fit = each_module IsModuleFit fit-sum fit-cnt fit-dev fit-tab

pub each_object : All HasObject modules
each_object k d below =
    let m = slice_index_or modules k d in
    IsObject-written m.sections m.symbols (each_writable k d below) (each_fit k d below) (each_readable k d below)
