-- The made model as a network.
use Rattle.std.specs.Prelude.{ℕ, ◌+◌, List, [], ◌∷◌, ◌++◌, codes, map, false}
use Rattle.std.specs.List.{range_with_len}
use Rattle.net_model.specs.declared.station.Kind.TheVariants.{Source, Server, Delay, Router, Sink}
use Rattle.net_model.specs.declared.limits.TheConstants.{USUAL_LIMIT}
use Rattle.net_model.specs.declared.station.Link.{Link}
use Rattle.net_model.specs.Net.{Net, Site, link}
use Rattle.study_generator.specs.Numbers.{longest_gap, longest_service, ward_name, ward_servers, wards}

-- the link from the triage to ward i, which is station i + 2
abbrev pub way : ℕ → Link
way i = record { to = i + 2; delay = 2; weight = i }

-- the source of at most 5000 patients, who come at most the longest gap apart and go to the triage
abbrev pub door : ℕ → Site
door n = record { name = codes "door"; kind = Source 1 (longest_gap n) 5000 1; stream = 1; links = link 2 2 ∷ [] }

-- the router that sends each patient to one of `count` wards, drawn by the weights of the links
abbrev pub triage : ℕ → Site
triage count = record {
  name = codes "triage";
  kind = Router false;
  stream = 2;
  links = map way (range_with_len 1 count);
}

-- ward i of `count`
abbrev pub ward : ℕ → ℕ → Site
ward count i = record {
  name = ward_name i;
  kind = Server (ward_servers i) 20 3 (longest_service i) false;
  stream = i + 2;
  links = link (count + 3) 3 ∷ [];
}

-- the delay between the wards and the exit
abbrev pub walk : ℕ → Site
walk count = record { name = codes "walk"; kind = Delay 0 4; stream = count + 3; links = link (count + 4) 2 ∷ [] }

-- the sink after the walk
abbrev pub exit : ℕ → Site
exit count = record { name = codes "exit"; kind = Sink; stream = count + 4; links = [] }

-- the stations of a network with `count` wards
abbrev pub made_sites : ℕ → ℕ → List Site
made_sites n count =
    door n ∷ triage count ∷ map (ward count) (range_with_len 1 count) ++ walk count ∷ exit count ∷ []

-- the network with this seed and `count` wards
abbrev pub net_with : ℕ → ℕ → Net
net_with n count = record {
  format = 1;
  lookahead = 2;
  horizon = 5000;
  seed = n;
  limit = USUAL_LIMIT;
  sites = made_sites n count;
}

-- the network with this number
abbrev pub made_net : ℕ → Net
made_net n = net_with n (wards n)
