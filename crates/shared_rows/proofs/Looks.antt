-- a pass that has loaded a word is the same CPU's still
use Rattle.std.proofs.Common.{◌≡◌, ℕ, ◌+◌, ◌<◌, List, length, set, Some, ap, ◌∙◌}
use Rattle.std.specs.Prelude.{get_or, option_map}
use Rattle.std.proofs.lemmas.Option.{slice_get_read}
use Rattle.atomic_table.specs.Seated.{TableId}
use Rattle.shared_table.specs.shared_rule.declared.parts.PassView.{PassView}
use Rattle.shared_table.specs.shared_rule.Plays.{seen_pass}
use Rattle.shared_table.specs.shared_rule.Passes.{HeldPass, IsOfRun, Seated, with_pass}
use Rattle.shared_table.specs.Ended.{IsPassAt, PassesFrom}
use Rattle.shared_table.proofs.Passes.{one_changed, one_of}
use Rattle.shared_rows.specs.Looks.{StaysAt}

module _ (table : TableId) (word found : ℕ) (before after : HeldPass)
    (is : after ≡ with_pass (seen_pass word found) before) where
  -- it has its seat, which remembers the word
  has_seat : (p : PassView) → before.seated ≡ Some (record { table = table; pass = p })
      → after.seated ≡ Some (record { table = table; pass = seen_pass word found p })
  has_seat p at =
      ap (λ (held : HeldPass). held.seated) is
      ∙ ap (option_map (λ (s : Seated). record s { pass = seen_pass word found s.pass })) at

  pub run_stays : IsOfRun table before → IsOfRun table after
  run_stays h = (seen_pass word found h.0, has_seat h.0 h.1)

  pub seen_stays : StaysAt table before after
  seen_stays k h = record {
    part = seen_pass word found h.part;
    seated = has_seat h.part h.seated;
    cpu = h.cpu;
    outside = h.outside;
  }

module _ (table : TableId) (first i count : ℕ) (ps : List HeldPass) (p : HeldPass)
    (are : PassesFrom table first ps) (count_is : count ≡ length ps) (low : i < count)
    (read : p ≡ get_or ps i p) where
  -- the pass at a place of those from a CPU on
  pass_there : IsPassAt table (first + i) p
  pass_there = one_of table first i ps p are (slice_get_read ps count i p count_is low read)

  pub is_of_run : IsOfRun table p
  is_of_run = (pass_there.part, pass_there.seated)

  -- is that CPU's still after it has loaded
  pub others_too : (q : HeldPass) → StaysAt table p q → PassesFrom table first (set ps i q)
  others_too q stays = one_changed table first i ps q are (stays (first + i) pass_there)
