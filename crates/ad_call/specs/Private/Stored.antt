-- What is found at a byte of a piece, and what is left there.
use Rattle.std.specs.Prelude.{◌≡◌, ℕ, true, false, drop, Result, Ok, Err}
use Rattle.byteorder.specs.Endian.{little_number}
use Rattle.ad_base.specs.declared.image.Image.{Image}
use Rattle.ad_base.specs.declared.layout.TheConstants.{FETCH_BYTES}
use Rattle.ad_base.specs.declared.role.Role.{Role}
use Rattle.ad_base.specs.declared.role.Role.TheVariants.{Code, FixedCode}
use Rattle.ad_base.specs.Layout.{rights_of}
use Rattle.ad_core.specs.declared.bus.Fetched.{Fetched}
use Rattle.ad_core.specs.declared.bus.Fetched.TheVariants as fetch
use Rattle.ad_core.specs.declared.bus.Refusal.{Refusal}
use Rattle.ad_core.specs.declared.bus.Refusal.TheVariants as refusal
use Rattle.ad_call.specs.declared.spot.Spot.{Spot}
use Rattle.ad_call.specs.Private.Held.{Held, with_put}

-- what is fetched at a byte of a piece
abbrev pub word_of_role : Image → Role → ℕ → Fetched
word_of_role i Code o = fetch.Word (little_number FETCH_BYTES (drop o i.code))
word_of_role i FixedCode o = fetch.Word (little_number FETCH_BYTES (drop o i.fixed_code))
word_of_role i role o = fetch.Denied

abbrev pub word_in : Image → Spot → Fetched
word_in i spot = word_of_role i spot.role spot.offset

-- a store to a byte of a piece that answers so leaves these bytes
abbrev pub IsPut : {U : Type 0} → Spot → ℕ → ℕ → Result U Refusal → Held → Held → Type 0
IsPut spot size value (Ok u) before after = ((rights_of spot.role).store ≡ true) × (after ≡ with_put spot.role spot.offset size value before)
IsPut spot size value (Err r) before after = ((rights_of spot.role).store ≡ false) × (r ≡ refusal.Denied) × (after ≡ before)
