-- The promise of the whole library, on one page: every claim of every kind (frame, specs/Claims), what each case of an answer says (document 01, "Numbers returned"),
-- that each contract of the code is met by one answer, and the starred bodies of document 01.
use Rattle.frame.specs.Claims.{Claims, Fixed, Told}
use Rattle.frame.specs.Numbers.{answer_of}
use Rattle.base.specs.Kind as Base
use Rattle.base.specs.Contract as BaseCode
use Rattle.scene_kind.specs.Kind as Scene
use Rattle.scene.specs.Contract as SceneCode
use Rattle.text_label.specs.Kind as TextLabel
use Rattle.text_label.specs.Contract as TextLabelCode
use Rattle.multi_stream.specs.Kind as MultiStream
use Rattle.multi_stream.specs.Contract as MultiStreamCode
use Rattle.drc_kind.specs.Kind as DrcLoudness
use Rattle.drc_loudness.specs.Contract as DrcLoudnessCode
use Rattle.library.specs.Starred.{Starred}

pub record Library : Type 0 where
  -- the three conditions of the tender, and document 01
  pub base : Claims Base.kind
  pub scene : Claims Scene.kind
  pub text_label : Claims TextLabel.kind
  pub multi_stream : Claims MultiStream.kind
  pub drc_loudness : Claims DrcLoudness.kind
  -- document 01's number and values of each case of an answer
  pub told : Told
  -- no second answer of the code meets a contract
  pub base_fixed : Fixed Base.kind answer_of BaseCode.measured
  pub scene_fixed : Fixed Scene.kind answer_of SceneCode.measured
  pub text_label_fixed : Fixed TextLabel.kind answer_of TextLabelCode.measured
  pub multi_stream_fixed : Fixed MultiStream.kind answer_of MultiStreamCode.measured
  pub drc_loudness_fixed : Fixed DrcLoudness.kind answer_of DrcLoudnessCode.measured
  -- document 01's thirteen starred bodies, one list
  pub starred : Starred
