-- Every service answers by the verdict of its file, and the one that shows a fault also by the letters that the file is answered with.
use Prim.Native.Nat.{ℕ}
use mathlib.Core.Path.{◌≡◌, refl}
use mathlib.Core.List.{List}
use Rattle.model.specs.Services.{verdict}
use Rattle.law_ranking.specs.Numbering.{number_service, setting_service}
use Rattle.law_costs.specs.Bounds.{bounds_service}
use Rattle.law_witnesses.specs.Showing.{showing, show_service}
use Rattle.law_pairlists.specs.PairLists.{export_service, import_service}
use Rattle.law_units.specs.Units.{Units, Tally, play_service}
use Rattle.check_overlap.specs.Overlap.{overlap_service}
use Rattle.law_refused.specs.ByVerdict.{number_with, setting_with, overlap_with, bounds_with, export_with, import_with, show_with, play_with}

module _ (file table work : List ℕ) where
  pub number_by : (i : ℕ) (value : List ℕ) → number_with (verdict file) table work i value ≡ number_service file table work i value
  unfolding number_service
  number_by i value = refl

  pub setting_by : (i n : ℕ) (result : List ℕ) → setting_with (verdict file) table work i n result ≡ setting_service file table work i n result
  unfolding setting_service
  setting_by i n result = refl

  pub overlap_by : (i j : ℕ) → overlap_with (verdict file) table work i j ≡ overlap_service file table work i j
  unfolding overlap_service
  overlap_by i j = refl

  pub bounds_by : (i : ℕ) → bounds_with (verdict file) table work i ≡ bounds_service file table work i
  unfolding bounds_service
  bounds_by i = refl

  pub export_by : (i budget : ℕ) (output : List ℕ) → export_with (verdict file) table work i budget output ≡ export_service file table work i budget output
  unfolding export_service
  export_by i budget output = refl

  pub import_by : (i j : ℕ) (list output : List ℕ) → import_with (verdict file) table work i j list output ≡ import_service file table work i j list output
  unfolding import_service
  import_by i j list output = refl

  pub show_by : (result : List ℕ) → show_with (verdict file) (showing file) table work result ≡ show_service file table work result
  unfolding show_service
  show_by result = refl

  pub play_by : (us : Units) (script : List ℕ) (budget : ℕ) (t : Tally)
      → play_with (verdict file) table work us script budget t ≡ play_service file table work us script budget t
  unfolding play_service
  play_by us script budget t = refl
