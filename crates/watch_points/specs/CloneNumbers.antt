-- Numbers of clones that do not depend on the order in which the clones were made.
use Rattle.std.specs.Prelude.{◌≡◌, ℕ, ◌+◌, ◌-◌, ◌<◌, ◌==◌, nat_lt, if◌then◌else◌, Bool, false, List, [], length, take}
use Rattle.std.specs.Prelude.{Option, Some, None, position, slice_get, unwrap_or}
use Rattle.sim_base.specs.Clones.{Clone, clone_at}
use Rattle.net_model.specs.Net.{Net}
use Rattle.watch_points.specs.Watchers.{Follows, WatcherView, watches_of}
use Rattle.watch_points.specs.declared.watch.Watch.{Watch}
use Rattle.watch_points.specs.declared.watcher.ActiveWatch.{ActiveWatch}
use Rattle.watch_points.specs.declared.watcher.Progress.{Progress}
use Rattle.watch_points.specs.declared.watcher.Progress.TheVariants.{Made}

-- the branch was made, and is the clone at this place
abbrev pub is_made_at : ℕ → Progress → Bool
is_made_at k (Made place start) = place == k
is_made_at k _ = false

-- the place of the watch whose branch is the clone at this place
abbrev pub maker_of : ℕ → List ActiveWatch → Option ℕ
maker_of k active = position (λ (a : ActiveWatch). is_made_at k a.progress) active

-- the number of the clone at a place: its place if it is the script's, or else the number of the script's clones and
-- the place of the watch that made it
abbrev pub clone_number : WatcherView → ℕ → ℕ
clone_number w k = if nat_lt k w.script_len then k else w.script_len + unwrap_or (maker_of k w.active) 0

-- the name of a watch's branch
abbrev pub new_name : Option Watch → List ℕ
new_name (Some w) = w.new
new_name None = []

-- the name that a number represents: that of a clone of the script, or of a watch's branch
abbrev pub numbered_name : List Clone → List Watch → ℕ → List ℕ
numbered_name cs ws n =
    if nat_lt n (length cs) then (clone_at cs n).name else new_name (slice_get ws (n - length cs))

-- a place of a world that a watcher follows
pub record IsPlaceOf (w : WatcherView) (k : ℕ) : Type 0 where
  pub net : Net
  pub clones : List Clone
  pub front : ℕ
  pub follows : Follows w net clones front
  pub in_range : k < length clones

-- the number of a clone of a followed world represents the clone's name
pub record NamesClone (w : WatcherView) (cs : List Clone) (k : ℕ) : Type 0 where
  pub in_range : clone_number w k < w.script_len + length w.active
  pub name : (clone_at cs k).name ≡ numbered_name (take w.script_len cs) (watches_of w.active) (clone_number w k)

abbrev pub NumbersNameClones : Type 0
NumbersNameClones = (w : WatcherView) (net : Net) (cs : List Clone) (front k : ℕ) → Follows w net cs front →
    k < length cs → NamesClone w cs k
