-- The log of the history, the rule that it keeps, and what its steps tell.
use Rattle.std.specs.Prelude.{ℕ, ◌≡◌, ◌==◌, Bool, true, false, List, [], ◌∷◌, ◌++◌, Option, Some, None, length}
use Rattle.std.specs.List.{AllByRecursion}
use Rattle.logbook.specs.Pages.{Cell, cell, Step, View, Book, Named, Nib, may_make, may_write}
use Rattle.phys_proc.specs.Racks.{RackView}
use Rattle.shelf.specs.Racks.{AreLegal}
use Rattle.shelf.specs.declared.entry.Entry.{Entry}

-- the racks with this one before them, where it counts and is there
abbrev pub with_first : Bool → Option RackView → List RackView → List RackView
with_first true (Some r) racks = r ∷ racks
with_first true None racks = racks
with_first false r racks = racks

-- the next key, where it counts, or else this one
abbrev pub next_key : Bool → ℕ → ℕ → ℕ
next_key true next key = next
next_key false next key = key

-- the racks that were added from a key on: each by the pen that the entry before it names
abbrev pub racks_from : ℕ → List Entry → List RackView
racks_from key [] = []
racks_from key (e ∷ log) = with_first (e.used == key) e.rack (racks_from (next_key (e.used == key) e.next key) log)

-- the key of the pen that may add the rack after these
abbrev pub key_after : ℕ → List Entry → ℕ
key_after key [] = key
key_after key (e ∷ log) = key_after (next_key (e.used == key) e.next key) log

-- the first word stays at 0, and each pen that has added a rack has given its word away
pub record IsHistory (cells : List Cell) (log : List Entry) : Type 0 where
  pub head : cell cells 0 ≡ (0, true)
  pub used : AllByRecursion (λ e. (cell cells e.used).1 ≡ true) log

-- the head of a history that is stored in this book: its word of key 0, which is tracked
abbrev pub head_of : Book → Named
head_of b = record { tracked = true; key = 0; book = b }

-- the step gave a pen for a new word
abbrev pub GivesPen : Step Entry → View Entry ℕ → ℕ → View Entry ℕ → Type 0
GivesPen s v found w = w.1.0.right ≡ may_make

-- the rack was added to all that had been seen, for each key from which the pen was the next one
abbrev pub Adds : Step Entry → View Entry ℕ → ℕ → View Entry ℕ → Type 0
Adds s v found w = (key : ℕ) → key_after key v.0 ≡ s.ask.used →
    (racks_from key w.0 ≡ racks_from key v.0 ++ with_first true s.ask.rack []) × (key_after key w.0 ≡ s.ask.next)

-- the writer of a history: it has seen all of it, its racks are legal, and its pen is the one that may add the next
pub record IsWriter (book : Book) (start : ℕ) (head : Named) (pen_book : Book) (pen : Nib) (count : ℕ)
    (seen_book : Book) (log : List Entry) : Type 0 where
  pub head_is : head ≡ head_of book
  pub pen_book_is : pen_book ≡ book
  pub pen_may : pen.right ≡ may_write
  pub pen_is_next : pen.key ≡ key_after start log
  pub seen_book_is : seen_book ≡ book
  pub count_is : count ≡ length (racks_from start log)
  pub legal : AreLegal (racks_from start log)
