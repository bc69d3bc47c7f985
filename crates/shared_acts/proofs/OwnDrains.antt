-- for crates above: a drain of an own base: what went out, and then the jobs
use Rattle.std.proofs.Common.{◌≡◌, ℕ, zero, ◌+◌, ◌≤◌, List, [], ◌∷◌, ◌++◌, Result, Ok, Err}
use Rattle.std.proofs.Common.{refl}
use Rattle.std.proofs.Common.{sym, ap, ◌∙◌, subst, inl, arith, append-nil, length, Contains}
use Rattle.std.specs.Prelude.{All, MatchResult}
use Rattle.std.proofs.lemmas.List.Elements.{Contains-append_left, Contains-append_right}
use Rattle.atomic_table.specs.Seated.{TableId}
use Rattle.tm_base.specs.declared.names.Class.{Class}
use Rattle.wheel_core.specs.declared.item.Item.{Item}
use Rattle.core_world.specs.World.{World}
use Rattle.job_table.specs.declared.jobs.JobCall.{JobCall}
use Rattle.job_table.specs.declared.jobs.JobReply.{JobReply}
use Rattle.shared_timers.specs.shared_rule.declared.parts.BoxView.{BoxView}
use Rattle.shared_timers.specs.shared_rule.declared.parts.PassView.{PassView}
use Rattle.shared_timers.specs.shared_rule.declared.parts.Receipt.{Receipt}
use Rattle.shared_timers.specs.shared_rule.Passes.{HeldPass, IsPassIn}
use Rattle.shared_timers.specs.shared_rule.Plays.{Agree}
use Rattle.shared_timers.specs.shared_rule.Turns.{MayRunOf}
use Rattle.shared_acts.specs.declared.runs.Ran.{Ran}
use Rattle.shared_acts.specs.Following.{Follows, RunsOfSome}
use Rattle.shared_acts.specs.Handing.{HasHanded}
use Rattle.shared_acts.specs.Pieces.{Breaks, HandsOutItems, HasDrained, HeldInside, IsTick, IsTimerOfRun}
use Rattle.shared_acts.specs.Pieces.{Piece, RanAll, RanSome}
use Rattle.shared_acts.proofs.Gaining.{no_piece, piece_then, receipts_then, same_pass}

-- a pass inside may run the timers of its own CPU's part
pub may_run_own : (table : TableId) (o : World) (held after : HeldPass) (b : BoxView)
    (class : Class) (p : PassView) → HeldInside table o held → after.seated ≡ held.seated
    → ((q : PassView) → IsPassIn table held q → q.cpu ≡ held.cpu) → held.cpu ≡ b.cpu
    → IsPassIn table after p → Agree b p → MayRunOf b class p
may_run_own table o held after b class p inside same law own is agree =
    let seated : IsPassIn table held p = sym same ∙ is in
    let mine : p.cpu ≡ b.cpu = law p seated ∙ own in
    let it = same_pass table held p inside.pass seated inside.seated in
    inl (mine, sym (agree.inside mine) ∙ ap (λ (x : PassView). x.inside) it ∙ inside.is.inside)

-- a pass with other room is as it was
pub roomed : (table : TableId) (held mid after : HeldPass) (receipts : List Receipt)
    → mid.seated ≡ held.seated → mid.cpu ≡ held.cpu → Piece table mid after receipts [] 0
    → Piece table held after receipts [] 0
roomed table held mid after receipts same cpu piece = record {
  before = piece.before;
  later = piece.later;
  had = sym same ∙ piece.had;
  has = piece.has;
  cpu = piece.cpu ∙ cpu;
  gains = piece.gains;
}

-- and has gained nothing
pub room_alone : (table : TableId) (o : World) (held mid : HeldPass) → HeldInside table o held
    → mid.seated ≡ held.seated → mid.cpu ≡ held.cpu → Piece table held mid [] [] 0
room_alone table o held mid inside same cpu =
    roomed table held mid mid [] same cpu
    (no_piece table mid inside.pass (same ∙ inside.seated))

-- want of memory, whatever it is told as
pub err_as : {T E : Type 0} (r : Result T E) (P : T → Type 0) (Q : Type 0) (e : E) → r ≡ Err e → Q
    → MatchResult r P (λ (e : E). Q)
err_as r P Q e is q = subst (λ r. MatchResult r P (λ e. Q)) (sym is) q

-- the box of the pass's own CPU: the receipts, and room for the runs
pub handed : (table : TableId) (o : World) (class : Class) (held mid after : HeldPass)
    (home : ℕ) (items : List Item) (queued capacity : ℕ) (told : List Ran)
    → mid.seated ≡ held.seated → mid.cpu ≡ held.cpu → home ≡ held.cpu
    → (receipts : List Receipt) × Piece table mid after receipts [] 0
    × HandsOutItems home mid.cpu class items receipts
    → All (IsTimerOfRun o) items → length items ≤ queued → length told + queued ≤ capacity
    → HasHanded table o class held after items capacity told
handed table o class held mid after home items queued capacity told same cpu own pass timers fewer
    room =
    record {
      receipts = pass.0;
      piece = roomed table held mid after pass.0 same cpu pass.1;
      hands =
          subst (λ n. HandsOutItems n held.cpu class items pass.0) own
          (subst (λ n. HandsOutItems home n class items pass.0) cpu pass.2);
      timers = timers;
      room = omega (arith, fewer, room);
    }

-- a drain ends with the base's being drained
pub tick_of : (home runner : ℕ) (class : Class) (is : List Item) (outs : List Receipt)
    → HandsOutItems home runner class is outs
    → (r : Receipt) × Contains outs r × IsTick home runner class r
unfolding HandsOutItems
tick_of home runner class [] outs h =
    (h.0, subst (λ rs. Contains rs h.0) (sym h.1) (zero, omega arith, refl), h.2)
tick_of home runner class (i ∷ is) [] h = absurd h
tick_of home runner class (i ∷ is) (r ∷ rs) h =
    let t = tick_of home runner class is rs h.1 in
    (t.0, Contains-append_right (r ∷ []) rs t.0 t.1, t.2)

-- broken off before anything went out
pub none_out : (table : TableId) (held after : HeldPass) (before now : List Ran)
    → Piece table held after [] [] 0 → now ≡ before → Breaks table held after before now 0
unfolding RunsOfSome
none_out table held after before now piece same = record {
  receipts = [];
  did = [];
  told = [];
  piece = piece;
  runs_are = same ∙ sym (append-nil before);
  some = refl;
}

module _ (table : TableId) (o : World) (jobs : ℕ → JobCall → JobReply) (class : Class)
    (held mid after : HeldPass) (items : List Item) (capacity : ℕ) (before now : List Ran)
    (out : HasHanded table o class held mid items capacity before) where
  -- what went out, and then the jobs
  all_done : (home : ℕ) → home ≡ held.cpu
      → RanAll table o jobs home items mid after before now
      → HasDrained table o jobs class held after before now
  all_done home own ran =
      let same : mid.cpu ≡ held.cpu = out.piece.cpu in
      let hands : HandsOutItems home mid.cpu class items out.receipts =
      subst (λ n. HandsOutItems n mid.cpu class items out.receipts) (sym own)
      (subst (λ n. HandsOutItems held.cpu n class items out.receipts) (sym same) out.hands) in
      let t = tick_of held.cpu held.cpu class items out.receipts out.hands in
      record {
        receipts = out.receipts ++ ran.receipts;
        did = ran.did;
        works = record {
          told = ran.told;
          piece =
              piece_then table held mid after out.receipts ran.receipts [] ran.did 0 0 out.piece
              ran.piece;
          runs_are = ran.runs_are;
          follows =
              subst (λ n. Follows o jobs n ran.did (length out.piece.before.receipts)
              (out.receipts ++ ran.receipts) [] ran.told) same
              (ran.follows class out.receipts (length out.piece.before.receipts)
              (sym (receipts_then table held mid after out.receipts ran.receipts [] ran.did 0 0
              out.piece ran.piece)) hands);
        };
        ticked = record {
          receipt = t.0;
          has = Contains-append_left out.receipts ran.receipts t.0 t.1;
          home = t.2.cpu;
          by = t.2.by;
          act = t.2.act;
          of_class = t.2.of_class;
        };
      }

  -- or some of them
  some_done : (home : ℕ) → home ≡ held.cpu → RanSome table home items mid after before now
      → Breaks table held after before now 0
  some_done home own ran =
      let same : mid.cpu ≡ held.cpu = out.piece.cpu in
      let hands : HandsOutItems home mid.cpu class items out.receipts =
      subst (λ n. HandsOutItems n mid.cpu class items out.receipts) (sym own)
      (subst (λ n. HandsOutItems held.cpu n class items out.receipts) (sym same) out.hands) in
      record {
        receipts = out.receipts ++ ran.receipts;
        did = ran.did;
        told = ran.told;
        piece =
            piece_then table held mid after out.receipts ran.receipts [] ran.did 0 0 out.piece
            ran.piece;
        runs_are = ran.runs_are;
        some = ran.some class out.receipts hands;
      }

  pub drained : {T E : Type 0} (home : ℕ) (result : Result T E) → home ≡ held.cpu
      → MatchResult result (λ (d : T). RanAll table o jobs home items mid after before now)
      (λ (e : E). RanSome table home items mid after before now)
      → MatchResult result (λ (d : T). HasDrained table o jobs class held after before now)
      (λ (e : E). Breaks table held after before now 0)
  drained home (Ok d) own ran = all_done home own ran
  drained home (Err e) own ran = some_done home own ran
