-- Kept beginnings: the lines before words, and the marks of a text.
use Rattle.std.proofs.Common.{◌≡◌, ℕ, zero, suc, ◌<◌, ◌≤◌, nat_lt, false, List, [], ◌∷◌, ◌++◌, refl, sym, ap, ◌∙◌}
use Rattle.std.proofs.Common.{subst, arith, inl, inr, length, length-append, take, get_or}
use Rattle.std.specs.List.{AllByRecursion}
use Rattle.std.proofs.Math.Seq.{take-length}
use Rattle.std.proofs.lemmas.Bool.{le-ltb}
use Rattle.std.proofs.lemmas.List.{take-append-le, length-take-le}
use Rattle.sim_base.specs.declared.entry.Entry.{Entry}
use Rattle.sim_base.specs.declared.entry.Line.{Line}
use Rattle.sim_base.specs.declared.message.Msg.{Msg}
use Rattle.sim_base.proofs.ListLaws.{all_append, all_weaker}
use Rattle.run_laws.proofs.Queue.{all_from}
use Rattle.run_laws.proofs.Lists.{filter_none}
use Rattle.net_model.specs.Net.{Net}
use Rattle.trace_writer.specs.Words.{entry_word}
use Rattle.trace_writer.specs.Kept.{lines_before, lines_text, IsMarkOf, AreMarksOf, IsMarked}
use Rattle.trace_writer.specs.declared.texts.Mark.{Mark}

-- an entry of a log of the network
abbrev pub E : Type 0
E = Entry Msg Line

-- ---- lines_before

-- no entry is before 0
pub before_zero : (net : Net) (es : List E) → lines_before net 0 es ≡ []
before_zero net es = ap (lines_text net) (filter_none (λ e. nat_lt (entry_word e) 0) es
    (all_from (λ e. nat_lt (entry_word e) 0 ≡ false) es (λ e i. le-ltb (entry_word e) 0 (omega arith))))

-- ---- IsMarkOf

-- a mark of a text is one of a longer text
pub mark_longer : (net : Net) (es : List E) (text more : List ℕ) (m : Mark) → IsMarkOf net es text m
    → IsMarkOf net es (text ++ more) m
mark_longer net es text more m h =
    let l = h.within in
    let n = length-append text more in
    record { within = omega (arith, l, n); is = take-append-le m.size text more l ∙ h.is }

-- and so are all marks
pub marks_longer : (net : Net) (es : List E) (text more : List ℕ) (marks : List Mark) → AreMarksOf net es text marks
    → AreMarksOf net es (text ++ more) marks
marks_longer net es text more marks h = all_weaker (IsMarkOf net es text) (IsMarkOf net es (text ++ more)) marks
    (λ m k. mark_longer net es text more m k) h

-- the mark of the end of a text
pub mark_of_end : (net : Net) (es : List E) (text : List ℕ) (m : Mark) → m.size ≡ length text
    → text ≡ lines_before net m.word es → IsMarkOf net es text m
mark_of_end net es text m size is = record {
  within = omega (arith, size);
  is = ap (λ n. take n text) size ∙ take-length text ∙ is;
}

-- with one more mark, or not
pub marks_more : (net : Net) (es : List E) (text : List ℕ) (old new : List Mark) (m : Mark) → IsMarked old new m
    → AreMarksOf net es text old → IsMarkOf net es text m → AreMarksOf net es text new
marks_more net es text old new m h all one = elim h [
  | inl same ↦ subst (AreMarksOf net es text) (sym same) all
  | inr more ↦ subst (AreMarksOf net es text) (sym more)
      (all_append (IsMarkOf net es text) old (m ∷ []) all (one, tt))
]

-- a mark within the first bytes is one of them
pub mark_within : (net : Net) (es : List E) (text : List ℕ) (n : ℕ) (m : Mark) → n ≤ length text → m.size ≤ n
    → IsMarkOf net es text m → IsMarkOf net es (take n text) m
mark_within net es text n m l k h =
    let size = length-take-le n text l in
    record { within = omega (arith, k, size); is = first_of_first m.size n text k ∙ h.is }
  where
    first_of_first : (e n : ℕ) (xs : List ℕ) → e ≤ n → take e (take n xs) ≡ take e xs
    first_of_first zero n xs l = refl
    first_of_first (suc e) zero xs l = absurd (omega (arith, l))
    first_of_first (suc e) (suc n) [] l = refl
    first_of_first (suc e) (suc n) (x ∷ xs) l = ap (λ k. x ∷ k) (first_of_first e n xs (omega (arith, l)))

-- a mark that is at most so long, and of a word that is not after another
pub record IsEarly (most size : ℕ) (m : Mark) : Type 0 where
  pub word : m.word ≤ most
  pub size_is : m.size ≤ size

-- the first marks of a text, cut at the end of the last of them
pub marks_cut : (net : Net) (es : List E) (text : List ℕ) (n most : ℕ) (marks : List Mark) → n ≤ length text
    → AreMarksOf net es text marks → AllByRecursion (IsEarly most n) marks → AreMarksOf net es (take n text) marks
marks_cut net es text n most [] l h k = tt
marks_cut net es text n most (m ∷ ms) l h k =
    (mark_within net es text n m l k.0.size_is h.0, marks_cut net es text n most ms l h.1 k.1)

-- a part of the marks
pub marks_take : (net : Net) (es : List E) (text : List ℕ) (n : ℕ) (marks : List Mark) → AreMarksOf net es text marks
    → AreMarksOf net es text (take n marks)
marks_take net es text zero marks h = tt
marks_take net es text (suc n) [] h = tt
marks_take net es text (suc n) (m ∷ ms) h = (h.0, marks_take net es text n ms h.1)

-- marks of one list of entries are marks of another that has the same ones before each word up to `most`
pub marks_same : (net : Net) (es fs : List E) (text : List ℕ) (most : ℕ) (marks : List Mark)
    → ((w : ℕ) → w ≤ most → lines_before net w es ≡ lines_before net w fs)
    → AllByRecursion (λ (m : Mark). m.word ≤ most) marks → AreMarksOf net es text marks → AreMarksOf net fs text marks
marks_same net es fs text most [] same early h = tt
marks_same net es fs text most (m ∷ ms) same early h = (
  (let k = h.0 in record { within = k.within; is = k.is ∙ same m.word early.0 }),
  marks_same net es fs text most ms same early.1 h.1,
)

-- an element is read the same whatever stands for none
pub read_same : (marks : List Mark) (i : ℕ) (a b : Mark) → i < length marks → a ≡ get_or marks i a
    → b ≡ get_or marks i b → a ≡ b
read_same marks i a b l h k = h ∙ any marks i a b l ∙ sym k
  where
    any : (ms : List Mark) (i : ℕ) (a b : Mark) → i < length ms → get_or ms i a ≡ get_or ms i b
    any [] i a b l = absurd (omega (arith, l))
    any (m ∷ ms) zero a b l = refl
    any (m ∷ ms) (suc i) a b l = any ms i a b (omega (arith, l))
