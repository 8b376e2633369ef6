-- The segments that a call reaches.
use Rattle.std.specs.Prelude.{ℕ, List}
use Rattle.ad_base.specs.Segments.{Segment}
use Rattle.ad_call.specs.declared.pieces.Pieces.{Pieces}
use Rattle.ad_core.specs.Image.{segments_of}

abbrev pub segments_in : Pieces → List (Segment ℕ)
segments_in p = segments_of p.image.now p.under p.stack p.bytes.stack p.bytes.fixed p.bytes.writable
