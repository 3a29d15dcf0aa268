-- The regions of memory don't overlap.
use Rattle.std.proofs.Common.{refl, arith}
use Rattle.code_frag.specs.Regions.{RegionsInOrder}

pub regions_in_order : RegionsInOrder
regions_in_order = record {
  residents = refl;
  column = refl;
  opened_count = refl;
  depth = refl;
  next_item = refl;
  words = omega arith;
  cells = omega arith;
  arrays = omega arith;
  numbers = omega arith;
  numbers_before_texts = omega arith;
  texts = omega arith;
  texts_before_strings = omega arith;
  strings = omega arith;
  saved = omega arith;
  opened = omega arith;
  calls = omega arith;
  array_room = omega arith;
  chunks = omega arith;
  stack = omega arith;
  end = omega arith;
}
