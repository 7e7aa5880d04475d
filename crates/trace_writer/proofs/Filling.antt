-- A page with the line of one more entry.
use Rattle.std.proofs.Common.{◌≡◌, ℕ, ◌<◌, ◌≤◌, List, [], ◌∷◌, ◌++◌, refl, ap, sym, ◌∙◌, arith, append_assoc}
use Rattle.std.specs.List.{AllByRecursion}
use Rattle.std.proofs.lemmas.List.{flat_map_more}
use Rattle.net_model.specs.Net.{Net}
use Rattle.trace_writer.specs.Cursors.{IsNextWord}
use Rattle.trace_writer.specs.Words.{word_of}
use Rattle.trace_report.specs.TraceText.{entry_line}
use Rattle.trace_writer.specs.Pages.{IsBelow, IsPast, IsPage}
use Rattle.trace_writer.proofs.Marks.{E}

-- ---- IsBelow

-- one more below the limit
below_push : (limit : ℕ) (es : List E) (e : E) → AllByRecursion (IsBelow limit) es → IsBelow limit e
    → AllByRecursion (IsBelow limit) (es ++ e ∷ [])
below_push limit [] e all one = (one, tt)
below_push limit (f ∷ fs) e all one = (all.0, below_push limit fs e all.1 one)

-- ---- IsPage

-- nothing is taken yet
pub page_none : (net : Net) (limit : ℕ) (entries : List E) → IsPage net limit [] entries entries
page_none net limit entries = record { taken = []; parts = refl; lines = refl; below = tt }

-- the next entry is taken
pub page_more : (net : Net) (limit : ℕ) (text : List ℕ) (entries left : List E) (e : E) (after : List E)
    → IsPage net limit text entries left → left ≡ e ∷ after → IsBelow limit e
    → IsPage net limit (text ++ entry_line net e) entries after
page_more net limit text entries left e after page next below = record {
  taken = page.taken ++ e ∷ [];
  parts = page.parts ∙ ap (λ l. page.taken ++ l) next ∙ sym (append_assoc page.taken (e ∷ []) after);
  lines = ap (λ t. t ++ entry_line net e) page.lines ∙ flat_map_more (entry_line net) [] page.taken e;
  below = below_push limit page.taken e page.below below;
}

-- ---- IsNextWord

-- below a limit, the next entry is below it
pub next_below : (limit word : ℕ) (left : List E) (e : E) (after : List E) → IsNextWord word left → word < limit
    → left ≡ e ∷ after → IsBelow limit e
next_below limit word left e after next below is =
    let same : word ≡ word_of next.place left = next.is in
    let here = same ∙ ap (word_of next.place) is in
    record { place = next.place; within = next.within; below = omega (arith, here, below) }

-- otherwise all are past it
pub next_past : (limit word : ℕ) (left : List E) → IsNextWord word left → limit ≤ word → IsPast limit left
next_past limit word left next past =
    let is = next.is in record { place = next.place; within = next.within; past = omega (arith, is, past) }
