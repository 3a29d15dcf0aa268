-- What an image file is read as.
use Rattle.std.proofs.Common.{◌≡◌, ℕ, zero, suc, ◌+◌, ◌-◌, ◌*◌, ◌/◌, ◌%◌, ◌<◌, ◌≤◌, List, [], ◌∷◌, ◌++◌, length, take, drop, flat_map, slice_index, slice_get, refl, sym, ap, subst, ◌∙◌, arith, length-drop, get_or-drop, take-add, drop-drop, take_all}
use Rattle.byteorder.specs.Endian.{little_number}
use Rattle.bv_base.specs.Words.{word_bytes, word_at, AreWords}
use Rattle.bv_base.proofs.Words.{word_from_bytes, length-flat_map-word_bytes, flat_map-more, same_words}
use Rattle.arm2_machine.specs.Image.{magic, ImageOf, MagicEnds, word_count, IsTooLong, NotImage, Unlike, CutOff, OtherEnd, HasOneImage}

-- the first four bytes are those of the word that they make
first_word : (xs : List ℕ) → 4 ≤ length xs → ((k : ℕ) → slice_index xs k < 256) → take 4 xs ≡ word_bytes (little_number 4 xs)
first_word [] long small = absurd (omega (arith, long))
first_word (a ∷ []) long small = absurd (omega (arith, long))
first_word (a ∷ b ∷ []) long small = absurd (omega (arith, long))
first_word (a ∷ b ∷ c ∷ []) long small = absurd (omega (arith, long))
first_word (a ∷ b ∷ c ∷ d ∷ xs) long small = word_of_four a b c d (small 0) (small 1) (small 2) (small 3)
  where
    word_of_four : (a b c d : ℕ) → a < 256 → b < 256 → c < 256 → d < 256 → a ∷ b ∷ c ∷ d ∷ [] ≡ word_bytes (a + 256 * (b + 256 * (c + 256 * (d + 0))))
    word_of_four a b c d a_small b_small c_small d_small =
        let w = a + 256 * (b + 256 * (c + 256 * (d + 0))) in
        let first : a ≡ w % 256 = omega arith in
        let second : b ≡ w / 256 % 256 = omega arith in
        let third : c ≡ w / 65536 % 256 = omega arith in
        let fourth : d ≡ w / 16777216 % 256 = omega arith in
        (λ i. first i ∷ second i ∷ third i ∷ fourth i ∷ [])

-- an image begins with the magic
image_magic : (bytes words : List ℕ) → ImageOf bytes words → MagicEnds bytes 4
image_magic bytes words image = record { within = omega arith; same = ap (take 4) image.spelled; differs = λ below. absurd (omega (arith, below)) }

image_count : (bytes words : List ℕ) → ImageOf bytes words → word_count bytes ≡ length words
unfolding word_at
image_count bytes words image = ap word_count image.spelled ∙ word_from_bytes (length words) (omega (arith, image.short))

image_length : (bytes words : List ℕ) → ImageOf bytes words → length bytes ≡ 8 + 4 * length words
image_length bytes words image = ap length image.spelled ∙ omega (arith, length-flat_map-word_bytes words)

slice_get-take : (xs : List ℕ) (n at : ℕ) → at < n → slice_get (take n xs) at ≡ slice_get xs at
slice_get-take [] zero at below = absurd (omega (arith, below))
slice_get-take [] (suc n) at below = refl
slice_get-take (x ∷ xs) zero at below = absurd (omega (arith, below))
slice_get-take (x ∷ xs) (suc n) zero below = refl
slice_get-take (x ∷ xs) (suc n) (suc at) below = slice_get-take xs n at (omega (arith, below))

-- where the bytes agree with the magic up to 4, they differ from it nowhere before
magic_ends_once : (bytes : List ℕ) (at : ℕ) → MagicEnds bytes 4 → MagicEnds bytes at → at < 4 → ⊥
magic_ends_once bytes at whole ends below = ends.differs below (sym (slice_get-take bytes 4 at below) ∙ ap (λ l. slice_get l at) whole.same ∙ slice_get-take magic 4 at below)

-- an image is refused nowhere, and is an image of no other words
pub one_image : (bytes words : List ℕ) → AreWords words → ImageOf bytes words → HasOneImage bytes words
one_image bytes words small image = record {
  only = λ other other_small also. same_words other words other_small small (ap (drop 8) (sym also.spelled ∙ image.spelled));
  is_image = λ at no. not_refused at no;
  fits = λ long. omega (arith, long.long, image_count bytes words image, image.short);
}
  where
    not_refused : (at : ℕ) → NotImage bytes at → ⊥
    not_refused at (Unlike ends below) = magic_ends_once bytes at (image_magic bytes words image) ends below
    not_refused at (CutOff magic short is) = omega (arith, short, image_length bytes words image)
    not_refused at (OtherEnd magic whole fits other is) = other (image_length bytes words image ∙ ap (λ n. 8 + 4 * n) (sym (image_count bytes words image)))

-- one more word was read
pub reads_word : (bytes words : List ℕ) (index w : ℕ) → w ≡ little_number 4 (drop (8 + 4 * index) bytes) → 8 + 4 * index + 4 ≤ length bytes → ((k : ℕ) → slice_index bytes k < 256) → take (4 * index) (drop 8 bytes) ≡ flat_map word_bytes words → take (4 * (index + 1)) (drop 8 bytes) ≡ flat_map word_bytes (words ++ w ∷ [])
reads_word bytes words index w is within small so_far =
    let rest = drop (8 + 4 * index) bytes in
    let long : 4 ≤ length rest = omega (arith, length-drop (8 + 4 * index) bytes, within) in
    let each : (k : ℕ) → slice_index rest k < 256 = λ k. (let P : ℕ → Type 0 = λ n. n < 256 in subst P (sym (get_or-drop (8 + 4 * index) bytes k 0)) (small _)) in
    ap (λ n. take n (drop 8 bytes)) (let e : 4 * (index + 1) ≡ 4 * index + 4 = omega arith in e)
    ∙ take-add (4 * index) 4 (drop 8 bytes)
    ∙ (λ i. so_far i ++ take 4 (drop-drop (4 * index) 8 bytes i))
    ∙ ap (λ l. flat_map word_bytes words ++ l) (first_word rest long each ∙ ap word_bytes (sym is))
    ∙ sym (flat_map-more words w)

-- what follows a place, as a slice to the end gives it
pub slice_from : (bytes : List ℕ) (n : ℕ) → take (length bytes - n) (drop n bytes) ≡ drop n bytes
slice_from bytes n = take_all (length bytes - n) (drop n bytes) (omega (arith, length-drop n bytes))

-- bytes that begin an image of too many words are refused for no place
pub long≢no_image : (bytes : List ℕ) (at : ℕ) → IsTooLong bytes → NotImage bytes at → ⊥
long≢no_image bytes at long (Unlike magic below) = magic_ends_once bytes at long.magic magic below
long≢no_image bytes at long (CutOff magic short is) = omega (arith, short, long.whole)
long≢no_image bytes at long (OtherEnd magic whole fits other is) = omega (arith, fits, long.long)
