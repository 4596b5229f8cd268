-- What the lines of a script are.
use Rattle.std.specs.Prelude.{◌≡◌, ℕ, ◌<◌, if◌then◌else◌, List, [], ◌∷◌, ◌++◌, length, ◌==◌, ◌≢◌, slice_index}
use Rattle.script.specs.declared.lines.Lines as iterator

abbrev pub line_feed : ℕ
line_feed = 10

-- the line that is being read has one more byte in front
abbrev pub longer : ℕ → List (List ℕ) → List (List ℕ)
longer b [] = (b ∷ []) ∷ []
longer b (line ∷ more) = (b ∷ line) ∷ more

-- a line feed ends a line; any other byte belongs to the line that is read next
unfoldable pub lines : List ℕ → List (List ℕ)
lines [] = []
lines (b ∷ input) = if b == line_feed then [] ∷ lines input else longer b (lines input)

-- the lines that an iterator has still to give
abbrev pub lines_left : iterator.Lines → List (List ℕ)
lines_left s = lines s.rest.now

abbrev pub NoFeed : List ℕ → Type 0
NoFeed line = (k : ℕ) → k < length line → slice_index line k ≢ line_feed

-- an input and its lines: each ends at the first line feed, and bytes after the last line feed are a line
pub data Lines : List ℕ → List (List ℕ) → Type 0 where
  none : Lines [] []
  last : {line : List ℕ} → 0 < length line → NoFeed line → Lines line (line ∷ [])
  more : {line rest : List ℕ} {others : List (List ℕ)} → NoFeed line → Lines rest others → Lines (line ++ line_feed ∷ rest) (line ∷ others)

-- `cut` are the lines of the input, and the input has no others
pub record Cut (input : List ℕ) (cut : List (List ℕ)) : Type 0 where
  pub sound : Lines input cut
  pub only : (other : List (List ℕ)) → Lines input other → other ≡ cut
