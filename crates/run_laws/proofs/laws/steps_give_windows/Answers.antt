use Rattle.run_laws.proofs.ComesTo.{settled-late, comes_to-settled, comes_to-over, comes_to-handle, comes_to-same}
use Rattle.run_laws.proofs.ComesTo.{comes_to-split, is_narrowed-rest}
use Rattle.run_laws.proofs.Steps.{so_far_more, IsStepped-SoFar, are_over}
use Rattle.run_laws.proofs.Gaining.{gained_alone, together_push}
use Rattle.run_laws.proofs.laws.steps_give_windows.Goals as goal

pub returns-clause-late : goal.returns-clause-late
returns-clause-late g c = λ w r sent k late. settled-late g.T.Stations.lawful w.joins w.ends w.station w.bound r
    sent k late

pub returns-clause-settled : goal.returns-clause-settled
returns-clause-settled g c = λ w r sent over.
    comes_to-settled g.T.Stations.lawful w.joins w.ends w.station w.bound r sent
    over

pub returns-clause-full : goal.returns-clause-full
returns-clause-full g c = λ w r x q sent over. comes_to-over g.T.Stations.lawful w.joins w.ends w.station w.bound r x.0
    x.1 q sent over

pub returns-clause-shared : goal.returns-clause-shared
returns-clause-shared g c = λ w r x q sent after results over over_after n.
    comes_to-handle g.T.Stations.lawful w.joins w.ends w.station w.bound r x.0 x.1 q sent results after over
    over_after n

pub returns-clause-passed : goal.returns-clause-passed
returns-clause-passed g c = λ w r x q before after results over over_after n p none h.
    comes_to-same g.T.Stations.lawful w.joins w.ends w.station w.bound r (record r { pending = q }) results before after
    over over_after n
    (is_narrowed-rest g.T.Stations.lawful w.joins w.ends w.station w.bound r x.0 x.1 q p none) (λ c i. i) h

pub returns-clause-splits : goal.returns-clause-splits
returns-clause-splits g c = λ w r some rest x q before mid after results1 results2 over over1 over2 n1 n2 short p
    sorted early one two all none each a b.
    comes_to-split g.T.Stations.lawful w.joins w.ends w.station w.bound r some rest x.0 x.1 q before mid after results1
    results2 over over1 over2 n1 n2 short p sorted early one two all none each a b

pub returns-clause-copies : goal.returns-clause-copies
returns-clause-copies g c = λ w old new results r out next over0 over over_after n.
    so_far_more g.T.Stations.lawful w.joins w.ends w.station w.bound old new results r out next over0 over over_after n

pub returns-clause-windows : goal.returns-clause-windows
returns-clause-windows g c = λ w old new out over0 over.
    IsStepped-SoFar g.T.Stations.lawful w.joins w.ends w.station w.bound old new out over0 over

pub returns-clause-over : goal.returns-clause-over
returns-clause-over g c = λ w old new out over0 over.
    are_over g.T.Stations.lawful w.joins w.ends w.station w.bound old new out over0 over

pub returns-clause-gains : goal.returns-clause-gains
returns-clause-gains g c = λ w old results r out next over over_after n m none h e.
    together_push g.T.Stations.lawful w.joins w.ends w.station 0 w.bound old r n m h
    (gained_alone g.T.Stations.lawful w.joins w.ends w.station 0 w.bound r out m none e.gained)
