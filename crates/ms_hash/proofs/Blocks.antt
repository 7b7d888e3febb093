-- The steps of the lines and the words of a block, one more at a time.
use Rattle.std.proofs.Common.{◌≡◌, ℕ, ◌+◌, ◌*◌, ◌<◌, List, [], ◌∷◌, ◌++◌, length, take, drop, slice_index, slice_set, refl, arith, ◌∙◌, add-one}
use Rattle.std.proofs.lemmas.List.{get_or-take, get_or-drop, take_more_set}
use Rattle.def_hash.specs.Ripemd.{left_step, right_step, left_line, right_line, word_at, block_words}

pub no_left_step : (w h : List ℕ) → left_line w h 0 ≡ h
unfolding left_line
no_left_step w h = refl

pub left_line_next : (w h : List ℕ) (n : ℕ) → left_line w h (n + 1) ≡ left_step w n (left_line w h n)
unfolding left_line
left_line_next w h n = rw add-one refl

pub no_right_step : (w h : List ℕ) → right_line w h 0 ≡ h
unfolding right_line
no_right_step w h = refl

pub right_line_next : (w h : List ℕ) (n : ℕ) → right_line w h (n + 1) ≡ right_step w n (right_line w h n)
unfolding right_line
right_line_next w h n = rw add-one refl

pub no_words : (b : List ℕ) → block_words b 0 ≡ []
unfolding block_words
no_words b = refl

words_next : (b : List ℕ) (k : ℕ) → block_words b (k + 1) ≡ block_words b k ++ word_at b (4 * k) ∷ []
unfolding block_words
words_next b k = rw add-one refl

byte_in_block : (p : List ℕ) (start i : ℕ) → i < 64 → slice_index (take 64 (drop start p)) i ≡ slice_index p (start + i)
byte_in_block p start i low = get_or-take 64 (drop start p) i 0 low ∙ get_or-drop start p i 0

word_in_block : (p : List ℕ) (start k : ℕ) → k < 16 → word_at (take 64 (drop start p)) (4 * k) ≡ word_at p (start + 4 * k)
word_in_block p start k low =
    let second : start + (4 * k + 1) ≡ start + 4 * k + 1 = omega arith in
    let third : start + (4 * k + 2) ≡ start + 4 * k + 2 = omega arith in
    let fourth : start + (4 * k + 3) ≡ start + 4 * k + 3 = omega arith in
    rw (
      byte_in_block p start (4 * k) (omega arith),
      byte_in_block p start (4 * k + 1) (omega arith),
      byte_in_block p start (4 * k + 2) (omega arith),
      byte_in_block p start (4 * k + 3) (omega arith),
      second,
      third,
      fourth,
    ) refl

-- an array that begins with the block's first k words, after its next word is written
pub words_more : (p words : List ℕ) (start k word : ℕ) → k < 16 → k < length words → take k words ≡ block_words (take 64 (drop start p)) k
    → word ≡ word_at p (start + 4 * k) → take (k + 1) (slice_set words k word) ≡ block_words (take 64 (drop start p)) (k + 1)
words_more p words start k word low fits before read =
    take_more_set words k word fits ∙ rw (before, read, words_next (take 64 (drop start p)) k, word_in_block p start k low) refl
