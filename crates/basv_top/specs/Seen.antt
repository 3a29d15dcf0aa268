-- What the outside tells at one moment: a shelf by its names, a sink of what it was given, and of each its faults and its
-- log. This project's own.
use Rattle.std.specs.Prelude.{◌≡◌, ◌⊎◌, ℕ, List, Option}
use Rattle.bv_io.specs.declared.shelf.Shelf as shelves
use Rattle.bv_io.specs.declared.sink.Sink as sinks
use Rattle.bv_io.specs.Log.{Event}
use Rattle.bv_io.specs.Shelf.{Rose}
use Rattle.bv_io.specs.Sink.{with_bytes, WritesPart}

pub record SeenShelf : Type 0 where
  pub content : List ℕ → Option (Option (List ℕ))
  pub take_faults : ℕ
  pub put_faults : ℕ
  pub log : List Event

pub record SeenSink : Type 0 where
  pub written : Option (List ℕ)
  pub faults : ℕ
  pub log : List Event

-- a shelf by the meaning that its type gives it
abbrev pub seen_shelf : {S : Type 0} → shelves.Ghosts S → S → SeenShelf
seen_shelf g shelf = record { content = g.content shelf; take_faults = g.take_faults shelf; put_faults = g.put_faults shelf; log = g.log shelf }

-- a sink by the meaning that its type gives it
abbrev pub seen_sink : {O : Type 0} → sinks.Ghosts O → O → SeenSink
seen_sink g sink = record { written = g.written sink; faults = g.faults sink; log = g.log sink }

-- a sink was not called
abbrev pub Silent : SeenSink → SeenSink → Type 0
Silent before after = after ≡ before

-- the text was written, or a first part of it where the sink failed
abbrev pub Writes : SeenSink → SeenSink → List ℕ → Type 0
Writes before after text =
    (after.written ≡ with_bytes before.written text) ⊎ (WritesPart before.written text after.written × Rose before.faults after.faults)

-- each name of the shelf is as it was
abbrev pub Same : SeenShelf → SeenShelf → Type 0
Same before after = (n : List ℕ) → after.content n ≡ before.content n
