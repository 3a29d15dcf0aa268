-- The memory of a loaded image: its words are where they were put, and the arena is all zero.
use Rattle.std.proofs.Common.{◌≡◌, ℕ, ◌+◌, ◌-◌, ◌*◌, ◌/◌, ◌%◌, ◌^◌, ◌<◌, ◌≤◌, List, [], ◌∷◌, ◌++◌, length, take, drop, flat_map, slice_index, Some, None, true, false, ◌&&◌, nat_le, nat_lt, le-leb, lt-ltb, add-zero, if◌then◌else◌, refl, sym, ap, subst, ◌∙◌, arith, append_assoc, length-append}
use Rattle.std.proofs.lemmas.Grind.{common_steps}
use Rattle.bv_base.specs.Limits.{image_words}
use Rattle.bv_base.specs.MemoryMap.{ram_end, arena_start, arena_end, arena_bytes, image_start}
use Rattle.bv_base.specs.Bytes.{zeros}
use Rattle.bv_base.proofs.Zeros.{length-zeros, zeros-add}
use Rattle.bv_base.proofs.Words.{word_from_bytes, length-flat_map-word_bytes}
use Rattle.arm2_cpu.specs.Memory.{read_word}
use Rattle.bv_base.specs.Words.{word_bytes, word_at, put_at, AreWords}
use Rattle.arm2_machine.specs.Machine.{board_space, fetched, loaded_ram, arena_of}

lengths : (start more rest : ℕ) (words : List ℕ) → length words ≤ more → rest ≡ 4 * more - 4 * length words → length (zeros start ++ (flat_map word_bytes words ++ zeros rest)) ≡ start + 4 * more
lengths start more rest words short is =
    length-append (zeros start) _
    ∙ (λ i. length-zeros start i + length-append (flat_map word_bytes words) (zeros rest) i)
    ∙ (λ i. start + (length-flat_map-word_bytes words i + length-zeros rest i))
    ∙ omega (arith, short, is)

pub loaded_ram_length : (words : List ℕ) → length words ≤ image_words → length (loaded_ram words) ≡ ram_end
unfolding loaded_ram
loaded_ram_length words short = lengths image_start ((ram_end - image_start) / 4) (ram_end - image_start - 4 * length words) words (omega arith) refl

drop_front : (xs ys : List ℕ) (n : ℕ) → length xs ≡ n → drop n (xs ++ ys) ≡ ys
drop_front xs ys n is = grind (arith, common_steps)

take_front : (xs ys : List ℕ) (n : ℕ) → length xs ≡ n → take n (xs ++ ys) ≡ xs
take_front xs ys n is = grind (arith, common_steps)

-- the bytes of an image's words lie in the RAM
pub bytes_of_words : (words : List ℕ) → length words ≤ image_words → image_start + length (flat_map word_bytes words) ≤ ram_end
bytes_of_words words short = omega (arith, short, length-flat_map-word_bytes words)

take_zeros : (n m : ℕ) → take n (zeros (n + m)) ≡ zeros n
take_zeros n m = ap (take n) (zeros-add n m) ∙ take_front (zeros n) (zeros m) n (length-zeros n)

drop_zeros : (n m : ℕ) → drop n (zeros (n + m)) ≡ zeros m
drop_zeros n m = ap (drop n) (zeros-add n m) ∙ drop_front (zeros n) (zeros m) n (length-zeros n)

-- bytes put among zeros
zeros_with : (before size all : ℕ) (bytes : List ℕ) → length bytes ≡ size → before + size ≤ all → put_at (zeros all) before bytes ≡ zeros before ++ (bytes ++ zeros (all - before - size))
unfolding put_at
zeros_with before size all bytes is fits =
    let first : all ≡ before + (all - before) = omega (arith, fits) in
    let second : all ≡ before + size + (all - before - size) = omega (arith, fits) in
    append_assoc (take before (zeros all)) bytes (drop (before + length bytes) (zeros all))
    ∙ (λ i. take before (zeros (first i)) ++ (bytes ++ drop (before + is i) (zeros (second i))))
    ∙ (λ i. take_zeros before (all - before) i ++ (bytes ++ drop_zeros (before + size) (all - before - size) i))

-- the words of an image among zeros
pub zeros_with_words : (words : List ℕ) → length words ≤ image_words → put_at (zeros ram_end) image_start (flat_map word_bytes words) ≡ loaded_ram words
unfolding loaded_ram
zeros_with_words words short =
    zeros_with image_start (4 * length words) ram_end (flat_map word_bytes words) (length-flat_map-word_bytes words) (omega (arith, short))

-- a part that lies in the middle of zeros
middle : (before part after : ℕ) (rest : List ℕ) → take part (drop before (zeros (before + (part + after)) ++ rest)) ≡ zeros part
middle before part after rest =
    ap (λ l. take part (drop before (l ++ rest))) (zeros-add before (part + after) ∙ ap (λ l. zeros before ++ l) (zeros-add part after))
    ∙ ap (λ l. take part (drop before l)) (append_assoc (zeros before) _ rest)
    ∙ ap (take part) (drop_front (zeros before) _ before (length-zeros before))
    ∙ ap (take part) (append_assoc (zeros part) (zeros after) rest)
    ∙ take_front (zeros part) _ part (length-zeros part)

-- the arena of a loaded image is all zero
pub arena_of-loaded_ram : (words : List ℕ) → arena_of (loaded_ram words) ≡ zeros arena_bytes
unfolding loaded_ram arena_of
arena_of-loaded_ram words = middle arena_start arena_bytes (image_start - arena_end) _

-- the words lie from an address on
abbrev pub HasAt : List ℕ → ℕ → List ℕ → Type 0
HasAt ram a [] = Unit {0}
HasAt ram a (w ∷ ws) = (fetched ram a ≡ Some w) × HasAt ram (a + 4) ws

-- what follows other bytes
slice_index-append : (front back : List ℕ) (a k : ℕ) → length front ≡ a → slice_index (front ++ back) (a + k) ≡ slice_index back k
slice_index-append front back a k is = grind (arith, common_steps)

-- the supervisor may use all of the RAM
allowed : (a : ℕ) → a < ram_end → board_space.allows false a ≡ true
allowed a inside =
    let low : nat_le 0 a ≡ true = le-leb 0 a (omega arith) in
    let high : nat_lt a ram_end ≡ true = lt-ltb a ram_end inside in
    (λ i. low i && high i)

-- the RAM begins at address 0
word_here : (ram : List ℕ) (a : ℕ) → word_at ram (a - 0) ≡ slice_index ram a + slice_index ram (a + 1) * 2 ^ 8 + slice_index ram (a + 2) * 2 ^ 16 + slice_index ram (a + 3) * 2 ^ 24
unfolding word_at
word_here ram a =
    let here : a - 0 ≡ a = omega arith in
    (λ i. slice_index ram (here i) + slice_index ram (here i + 1) * 2 ^ 8 + slice_index ram (here i + 2) * 2 ^ 16 + slice_index ram (here i + 3) * 2 ^ 24)

fetched-is : (ram : List ℕ) (a : ℕ) → a < ram_end → fetched ram a ≡ Some (word_at ram (a - 0))
unfolding read_word
fetched-is ram a inside = ap (λ b. if b then Some (word_at ram (a - 0)) else None) (allowed a inside)

-- a word is fetched where its bytes stand
fetched_at : (front back : List ℕ) (a w : ℕ) → length front ≡ a → a < ram_end → w < 2 ^ 32 → fetched (front ++ (word_bytes w ++ back)) a ≡ Some w
fetched_at front back a w is inside small =
    let ram = front ++ (word_bytes w ++ back) in
    let first : slice_index ram a ≡ w % 256 = ap (slice_index ram) (sym (add-zero a)) ∙ slice_index-append front _ a 0 is in
    fetched-is ram a inside ∙ ap (λ n. Some n)
    (word_here ram a
    ∙ (λ i. first i + slice_index-append front (word_bytes w ++ back) a 1 is i * 256 + slice_index-append front (word_bytes w ++ back) a 2 is i * 65536 + slice_index-append front (word_bytes w ++ back) a 3 is i * 16777216)
    ∙ omega (arith, word_from_bytes w small))

-- words are where their bytes were put
has_at : (words front back : List ℕ) (a : ℕ) → length front ≡ a → a + 4 * length words ≤ ram_end → AreWords words → HasAt (front ++ (flat_map word_bytes words ++ back)) a words
has_at [] front back a is inside small = tt
has_at (w ∷ ws) front back a is inside small = (
  ap (λ l. fetched (front ++ l) a) (append_assoc (word_bytes w) (flat_map word_bytes ws) back) ∙ fetched_at front (flat_map word_bytes ws ++ back) a w is (omega (arith, inside)) small.0,
  subst (λ l. HasAt l (a + 4) ws)
      (append_assoc front (word_bytes w) _ ∙ ap (λ l. front ++ l) (sym (append_assoc (word_bytes w) _ back)))
      (has_at ws (front ++ word_bytes w) back (a + 4) (length-append front (word_bytes w) ∙ omega (arith, is)) (omega (arith, inside)) small.1),
)

-- the words of a loaded image are in its memory
pub loaded_has : (words : List ℕ) → length words ≤ image_words → AreWords words → HasAt (loaded_ram words) image_start words
unfolding loaded_ram
loaded_has words short small = has_at words (zeros image_start) _ image_start (length-zeros image_start) (omega (arith, short)) small

pub has_front : (ram : List ℕ) (a : ℕ) (ws vs : List ℕ) → HasAt ram a (ws ++ vs) → HasAt ram a ws
has_front ram a [] vs h = tt
has_front ram a (w ∷ ws) vs h = (h.0, has_front ram (a + 4) ws vs h.1)

pub has_back : (ram : List ℕ) (a : ℕ) (ws vs : List ℕ) → HasAt ram a (ws ++ vs) → HasAt ram (a + 4 * length ws) vs
has_back ram a [] vs h = subst (λ n. HasAt ram n vs) (let e : a ≡ a + 4 * 0 = omega arith in e) h
has_back ram a (w ∷ ws) vs h = subst (λ n. HasAt ram n vs) (let e : a + 4 + 4 * length ws ≡ a + 4 * length (w ∷ ws) = omega arith in e) (has_back ram (a + 4) ws vs h.1)
