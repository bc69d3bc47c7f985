-- the drains of an interrupt, and the looks behind them
use Rattle.std.proofs.Common.{◌≡◌, ℕ, ◌+◌, List, ◌++◌, Result, Ok, Err, sym, subst, arith}
use Rattle.std.proofs.Common.{ap, ◌∙◌, length, refl}
use Rattle.std.specs.Prelude.{MatchResult}
use Rattle.atomic_table.specs.Seated.{TableId}
use Rattle.tm_base.specs.declared.names.Class.{Class}
use Rattle.tm_base.specs.declared.names.Class.TheVariants.{Deferrable, Global, Pinned}
use Rattle.tm_base.specs.declared.faults.NoMemory.{NoMemory}
use Rattle.tree_plan.specs.Paths.{level_count_of}
use Rattle.core_world.specs.World.{World}
use Rattle.job_table.specs.declared.jobs.JobCall.{JobCall}
use Rattle.job_table.specs.declared.jobs.JobReply.{JobReply}
use Rattle.walk_inactive.specs.shared_rule.declared.parts.Receipt.{Receipt}
use Rattle.walk_inactive.specs.shared_rule.Passes.{HeldPass}
use Rattle.shared_acts.specs.declared.runs.Ran.{Ran}
use Rattle.shared_acts.specs.Interrupts.{HasTicked}
use Rattle.shared_acts.specs.Looks.{LooksFrom}
use Rattle.shared_acts.specs.Pieces.{deeds_of}
use Rattle.shared_acts.proofs.Gaining.{receipts_then, same_pass}
use Rattle.shared_acts.proofs.Served.{deeds_behind, works_then}
use Rattle.remote_expiry.specs.Order.{BeginsWhere, IsWholeDrain}
use Rattle.remote_expiry.specs.Trying.{DrainsOwn, HasClimbedLevels, HasDrainedAll, HasWorked}
use Rattle.remote_expiry.specs.Trying.{StopsPass}
use Rattle.remote_expiry.proofs.Stopped.{stops_after}
use Rattle.remote_expiry.proofs.Levels.{Within, looks_behind, within_left, within_right}

-- a drain is among more receipts
ticked_among : (cpu : ℕ) (class : Class) (rs more : List Receipt) → Within rs more
    → HasTicked cpu class rs → HasTicked cpu class more
ticked_among cpu class rs more within t = record {
  receipt = t.receipt;
  has = within t.receipt t.has;
  home = t.home;
  by = t.by;
  act = t.act;
  of_class = t.of_class;
}

-- THE DRAINS one behind the other
module _ (table : TableId) (o : World) (jobs : ℕ → JobCall → JobReply) (held a : HeldPass)
    (first second : List Ran) (pinned : DrainsOwn table o jobs Pinned held a first second) where
  pub second_off : (after : HeldPass) (last : List Ran) → StopsPass table o jobs 0 a after second last
      → StopsPass table o jobs 0 held after first last
  second_off after last breaks =
      stops_after table o jobs held a after first second last 0 0 0 pinned.receipts pinned.did
      pinned.works breaks (omega arith)

  module _ (b : HeldPass) (third : List Ran)
      (global : DrainsOwn table o jobs Global a b second third) where
    pub all_three : (after : HeldPass) (last : List Ran)
        → DrainsOwn table o jobs Deferrable b after third last
        → HasDrainedAll table o jobs held after first last
    all_three after last deferrable =
        let rest = global.receipts ++ deferrable.receipts in
        let rs = pinned.receipts ++ rest in
        let of_a : a.cpu ≡ held.cpu = pinned.works.piece.cpu in
        let of_b : b.cpu ≡ a.cpu = global.works.piece.cpu in
        let one = ticked_among held.cpu Pinned pinned.receipts rs (within_left pinned.receipts rest)
        pinned.ticked in
        let two = subst (λ n. HasTicked n Global rs) of_a
        (ticked_among a.cpu Global global.receipts rs
        (λ r has. within_right pinned.receipts rest r
        (within_left global.receipts deferrable.receipts r has)) global.ticked) in
        let three = subst (λ n. HasTicked n Deferrable rs) of_a
        (subst (λ n. HasTicked n Deferrable rs) of_b
        (ticked_among b.cpu Deferrable deferrable.receipts rs
        (λ r has. within_right pinned.receipts rest r
        (within_right global.receipts deferrable.receipts r has)) deferrable.ticked)) in
        record {
          receipts = rs;
          did = pinned.did ++ (global.did ++ deferrable.did);
          works =
              works_then table o jobs held a after first second last 0 0 pinned.receipts rest pinned.did
              (global.did ++ deferrable.did) pinned.works
              (works_then table o jobs a b after second third last 0 0 global.receipts
              deferrable.receipts global.did deferrable.did global.works deferrable.works);
          drained = by_class rs one two three;
          pinned = pinned.receipts;
          global = global.receipts;
          deferrable = deferrable.receipts;
          receipts_are = refl;
          of_pinned = pinned.whole;
          of_global = subst (λ n. IsWholeDrain n n Global global.receipts) of_a global.whole;
          of_deferrable =
              subst (λ n. IsWholeDrain n n Deferrable deferrable.receipts) (of_b ∙ of_a)
              deferrable.whole;
        }
      where
        by_class : (rs : List Receipt) → HasTicked held.cpu Pinned rs
            → HasTicked held.cpu Global rs → HasTicked held.cpu Deferrable rs → (class : Class)
            → HasTicked held.cpu class rs
        by_class rs one two three Pinned = one
        by_class rs one two three Global = two
        by_class rs one two three Deferrable = three

    pub third_off : (after : HeldPass) (last : List Ran) → StopsPass table o jobs 0 b after third last
        → StopsPass table o jobs 0 held after first last
    third_off after last breaks =
        second_then after last
        (stops_after table o jobs a b after second third last 0 0 0 global.receipts global.did
        global.works breaks (omega arith))
      where
        second_then : (after : HeldPass) (last : List Ran) → StopsPass table o jobs 0 a after second last
            → StopsPass table o jobs 0 held after first last
        second_then after last off =
            stops_after table o jobs held a after first second last 0 0 0 pinned.receipts pinned.did
            pinned.works off (omega arith)

    pub drained_last : (after : HeldPass) (last : List Ran) (result : Result (Unit {0}) NoMemory)
        → MatchResult result (λ done. DrainsOwn table o jobs Deferrable b after third last)
        (λ e. StopsPass table o jobs 0 b after third last)
        → MatchResult result (λ done. HasDrainedAll table o jobs held after first last)
        (λ e. StopsPass table o jobs 0 held after first last)
    drained_last after last (Ok done) deferrable = all_three after last deferrable
    drained_last after last (Err e) breaks = third_off after last breaks

-- THE LOOKS behind the drains
pub worked_last : (table : TableId) (o : World) (jobs : ℕ → JobCall → JobReply)
    (held mid after : HeldPass) (first now last : List Ran)
    (result : Result (Unit {0}) NoMemory) → HasDrainedAll table o jobs held mid first now
    → MatchResult result (λ done. HasClimbedLevels table o jobs mid after now last)
    (λ e. StopsPass table o jobs 1536 mid after now last)
    → MatchResult result (λ done. HasWorked table o jobs held after first last)
    (λ e. StopsPass table o jobs 1536 held after first last)
worked_last table o jobs held mid after first now last (Ok done) drains climbed =
    let same : mid.cpu ≡ held.cpu = drains.works.piece.cpu in
    let rs = drains.receipts ++ climbed.receipts in
    record {
      walks = 0 + climbed.walks;
      receipts = rs;
      did = drains.did ++ climbed.did;
      few = (let few = climbed.few in omega (arith, few));
      works =
          works_then table o jobs held mid after first now last 0 climbed.walks drains.receipts
          climbed.receipts drains.did climbed.did drains.works climbed.works;
      drained = λ class.
          ticked_among held.cpu class drains.receipts rs
          (within_left drains.receipts climbed.receipts) (drains.drained class);
      looked =
          subst (LooksFrom o held.cpu rs (level_count_of o.tree) 0)
          (sym (deeds_behind drains.did climbed.did))
          (looks_behind o held.cpu climbed.receipts rs (level_count_of o.tree) 0
          (deeds_of drains.did) (deeds_of climbed.did)
          (within_right drains.receipts climbed.receipts)
          (subst (λ n. LooksFrom o n climbed.receipts (level_count_of o.tree) 0
          (deeds_of climbed.did)) same climbed.looked));
      ordered = λ p seated.
          let behind : length climbed.works.piece.before.receipts
          ≡ length drains.works.piece.before.receipts + length drains.receipts =
          receipts_then table held mid after drains.receipts climbed.receipts drains.did climbed.did 0
          climbed.walks drains.works.piece climbed.works.piece in
          let one = same_pass table held drains.works.piece.before p drains.works.piece.had seated in
          record {
            pinned = drains.pinned;
            global = drains.global;
            deferrable = drains.deferrable;
            others = climbed.receipts;
            receipts_are = ap (λ (l : List Receipt). l ++ climbed.receipts) drains.receipts_are;
            of_pinned = drains.of_pinned;
            of_global = drains.of_global;
            of_deferrable = drains.of_deferrable;
            drained = drains.did;
            looked = climbed.did;
            did_are = refl;
            later =
                subst (λ n. BeginsWhere n climbed.did)
                (behind
                ∙ (λ k. length (one k).receipts + length (drains.receipts_are k)))
                (climbed.begins climbed.works.piece.before climbed.works.piece.had);
            looks =
                subst (λ n. LooksFrom o n climbed.receipts (level_count_of o.tree) 0
                (deeds_of climbed.did)) same climbed.looked;
          };
    }
worked_last table o jobs held mid after first now last (Err e) drains off =
    stops_after table o jobs held mid after first now last 0 1536 1536 drains.receipts drains.did
    drains.works off (omega arith)
