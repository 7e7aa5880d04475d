-- Links and their weights.
use Rattle.std.proofs.Common.{◌≡◌, List, length, arith}
use Rattle.std.proofs.lemmas.List.{length-map}
use Rattle.sim_base.specs.Weights.{IsWeight}
use Rattle.sim_base.proofs.ListLaws.{all_map}
use Rattle.net_model.specs.declared.station.Link.{Link}
use Rattle.sim_draw.specs.Drawing.{AreWeights}
use Rattle.stations.specs.Fits.{AreLinks}
use Rattle.stations.specs.Sending.{weights_of}

-- ---- weights_of

-- the weights of links are weights
pub are_weights : (links : List Link) → AreLinks links → AreWeights (weights_of links)
are_weights links are =
    let count : length (weights_of links) ≡ length links = length-map links (λ (l : Link). l.weight) in
    record {
      nonempty = omega (arith, count, are.nonempty);
      at_most = omega (arith, count, are.at_most);
      all = all_map IsWeight (λ (l : Link). l.weight) links are.weights;
    }
