-- What the functions of this crate tell each other of the table. No public contract cites it.
use Rattle.std.specs.Prelude.{ℕ, ◌+◌, ◌≤◌, ◌<◌, ◌≡◌, Bool, true, false, cond, List, ◌++◌, length, take, drop, get_or}
use Rattle.entries.specs.Entry.{begin_in}
use Rattle.compare.specs.Order.{upto}
use Rattle.entries.specs.Least.{is_first, lesser, least}
use Rattle.order.specs.Arranged.{ordered, before}
use Rattle.order.specs.Sorted.{Sorted}

-- the first n numbers are entries, and from `room` on there is room for as many
pub record Holds (t : List ℕ) (n room : ℕ) : Type 0 where
  pub apart : n ≤ room
  pub fits : room + n ≤ length t

-- the same of m of these n entries
pub record Halves (t : List ℕ) (m n room : ℕ) : Type 0 where
  pub part : m ≤ n
  pub holds : Holds t n room

-- what stands before the room is as it was, and the first m numbers stand in the room too
pub record Copies (m room : ℕ) (t t' : List ℕ) : Type 0 where
  pub length_kept : length t' ≡ length t
  pub front : take room t' ≡ take room t
  pub copied : take m (drop room t') ≡ take m t

-- r: an entry stands at a place before n, and x is not up to it
pub record Seconds (s t : List ℕ) (x at n : ℕ) (r : Bool) : Type 0 where
  pub some : r ≡ true → at < n
  pub after : r ≡ true → upto s x (get_or t at 0) ≡ false
  pub first : r ≡ false → at < n → upto s x (get_or t at 0) ≡ true

-- xs stand in the room, and ys behind the first m numbers, up to the n-th; c is what stands behind them up to the room
pub record Runs (s : List ℕ) (m n room : ℕ) (t xs ys c : List ℕ) : Type 0 where
  pub first : length xs ≡ m
  pub both : length xs + length ys ≡ n
  pub first_sorted : Sorted s xs
  pub second_sorted : Sorted s ys
  pub in_room : take m (drop room t) ≡ xs
  pub behind : drop m (take room t) ≡ ys ++ c

-- both runs are put in order
pub record Merges (s : List ℕ) (m n room : ℕ) (t t' : List ℕ) : Type 0 where
  pub length_kept : length t' ≡ length t
  pub is : (xs ys c : List ℕ) → Runs s m n room t xs ys c → take room t' ≡ ordered s (xs ++ ys) ++ c

-- xs and ys stand one behind the other, sorted, and c behind them up to the room
pub record Stand (s : List ℕ) (m n room : ℕ) (t xs ys c : List ℕ) : Type 0 where
  pub first : length xs ≡ m
  pub both : length xs + length ys ≡ n
  pub first_sorted : Sorted s xs
  pub second_sorted : Sorted s ys
  pub is : take room t ≡ xs ++ (ys ++ c)

-- both are put in order
pub record Joins (s : List ℕ) (m n room : ℕ) (t t' : List ℕ) : Type 0 where
  pub length_kept : length t' ≡ length t
  pub is : (xs ys c : List ℕ) → Stand s m n room t xs ys c → take room t' ≡ ordered s (xs ++ ys) ++ c

-- the first n numbers are put in order, and what stands behind them up to the room is as it was
pub record Sorts (s : List ℕ) (n room : ℕ) (t t' : List ℕ) : Type 0 where
  pub length_kept : length t' ≡ length t
  pub is : (xs c : List ℕ) → length xs ≡ n → take room t ≡ xs ++ c → take room t' ≡ ordered s xs ++ c

-- of sorted entries, where the first twin begins
pub record Tells (s t : List ℕ) (n l : ℕ) : Type 0 where
  pub is : Sorted s (take n t) → l ≡ least s (take n t)

-- y behind x, where the first twin up to x begins at l
abbrev pub least_next : List ℕ → ℕ → ℕ → ℕ → ℕ
least_next s x y l = cond (is_first s x y) (lesser (begin_in y) l) l

-- of the first n numbers those that begin before l stand in front, k of them
pub record Keeps (l n k : ℕ) (t t' : List ℕ) : Type 0 where
  pub length_kept : length t' ≡ length t
  pub number : k ≡ length (before l (take n t))
  pub few : k ≤ n
  pub is : take k t' ≡ before l (take n t)
