use Rattle.run_laws.proofs.Beginning.{stands_first}
use Rattle.run_laws.proofs.Deciding.{stands_after_decision, stands_after_other_decision, stands_end, stands_fork}
use Rattle.run_laws.proofs.laws.copies_stand_for_clones.Goals as goal

pub returns-clause-start : goal.returns-clause-start
returns-clause-start g c = λ has only s of_first here.
    stands_first g.T.Stations.lawful g.T.Stations.to_stations has only of_first s here

pub returns-clause-decision : goal.returns-clause-decision
returns-clause-decision g c = λ has cs front s who p m k copies done timely to_s of_who zip st.
    stands_after_decision g.T.Stations.lawful has cs front s who p m k copies done timely to_s of_who
    zip st

pub returns-clause-other_decision : goal.returns-clause-other_decision
returns-clause-other_decision g c = λ has cs front s who p m copies timely not st.
    stands_after_other_decision g.T.Stations.lawful has cs front s who p m copies timely not st

pub returns-clause-ending : goal.returns-clause-ending
returns-clause-ending g c = λ has cs front s who at copies there end st.
    stands_end g.T.Stations.lawful has cs front s who there copies at end st

pub returns-clause-forking : goal.returns-clause-forking
returns-clause-forking g c = λ has cs front s old name copies done may zip st.
    stands_fork g.T.Stations.sim has cs old name front s copies done may zip st
