-- Laws of the counter, in words of its fields.
use Rattle.std.specs.Prelude.{◌≡◌, ◌+◌, ◌-◌, ◌^◌}
use Rattle.registers.specs.declared.counter.Counted.{Counted}
use Rattle.registers.specs.declared.counter.Counter.{Counter}
use Rattle.registers.specs.declared.counter.Fields.{Fields}
use Rattle.registers.specs.declared.counter.Layout.{Layout}
use Rattle.registers.specs.Counter.{cut, joined, words_left, position, ends_block, stepped, preloaded, counted}

-- the largest fields that a layout has room for
abbrev pub largest : Layout → Fields
largest layout = cut layout (2 ^ 24 - 1)

-- the count after a word, and whether that word ended the block
abbrev pub after_word : Counter → Counted
after_word counter = record {
  count = joined counter.layout (stepped (preloaded counter) (counted counter));
  ended = ends_block (counted counter);
}

-- after a word inside the block one word more has moved, and one less is left
pub record GoesOn (preload count after : Fields) : Type 0 where
  pub moved : position preload after ≡ position preload count + 1
  pub left : words_left preload after + 1 ≡ words_left preload count

-- the word that ends a block was the last one left; after it every field is its preload, and no word of the next block has moved
pub record StartsAgain (preload count after : Fields) : Type 0 where
  pub last : words_left preload count ≡ 1
  pub back : after ≡ preload
  pub moved : position preload after ≡ 0
