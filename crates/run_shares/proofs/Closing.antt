-- for crates above: the end of a round: what all passes and lines have together is a round as it may be
use Rattle.std.proofs.Common.{arith, ◌≡◌, ℕ, zero, suc, ◌+◌, ◌<◌, List, [], ◌∷◌, ◌++◌, Option, Some}
use Rattle.std.proofs.Common.{None, Result, Ok, Err, length, map, sym, ap, ◌∙◌, subst, refl}
use Rattle.std.specs.Prelude.{IsOk, OnOk, slice_get}
use Rattle.std.specs.FinSet.{contains}
use Rattle.std.proofs.lemmas.Bool.{false≢true}
use Rattle.std.specs.List.{flat_map, range_with_len}
use Rattle.atomic_table.specs.Seated.{TableId}
use Rattle.tm_report.specs.declared.lines.Line.{Line}
use Rattle.run_story.specs.core_facts.Cover.Rest.{EachRests}
use Rattle.core_world.specs.Covered.{IsSettled}
use Rattle.core_world.specs.World.{World, cpu_of}
use Rattle.run_story.specs.step_play.Rules.Seen.{WalkFits, resting}
use Rattle.play_rules.specs.Interrupts.{Replies}
use Rattle.idle_wakeup.specs.shared_rule.declared.parts.PassView.{PassView}
use Rattle.idle_wakeup.specs.shared_rule.Passes.{HeldPass, Seated, passes_of}
use Rattle.idle_wakeup.specs.shared_rule.Rule.{Each}
use Rattle.idle_wakeup.specs.shared_table.Ended.{AreAllPasses, HasNoBaseBehind, PassesFrom}
use Rattle.idle_wakeup.specs.shared_table.Endings.{IsEnd}
use Rattle.idle_wakeup.specs.shared_table.Joined.{parts_of}
use Rattle.run_story.specs.Rounds.{HasShare, IsRound, by_journals, standing_at}
use Rattle.run_story.specs.Shares.{TellsShare, own_ops}
use Rattle.run_story.proofs.Knowing.{share_more}
use Rattle.run_shares.specs.Doing.{HasDone, by_pass, written_of}
use Rattle.run_shares.specs.Tasks.{AreGathered, EachFrom, HasShareEnded, RoundPlan, pass_of, told_of}
use Rattle.run_shares.specs.Progress.{IsDoneAt}
use Rattle.run_shares.specs.declared.shares.Share.{Share}
use Rattle.run_shares.proofs.Journals.{are_written, pass_known}
use Rattle.run_shares.proofs.Rows.{rows_by_number}

of_ok : {T E : Type 0} (r : Result T E) (P : Type 0) → OnOk r P → IsOk r → P
of_ok (Ok x) P h is = h
of_ok (Err e) P h is = absurd (false≢true is)

-- the lines of a share, if it is there
abbrev told_in : Option Share → List Line
told_in None = []
told_in (Some s) = told_of s

module _ (table : TableId) (o : World) (jobs : Replies) (plan : RoundPlan) where
  -- memory was enough
  abbrev Did : ℕ → Share → Type 0
  Did c s =
      HasDone table o jobs (contains plan.due c) (own_ops c plan.ops) c s.pass s.lines.items

  pub each_did : (k : ℕ) (ss : List Share) → EachFrom (IsDoneAt table o jobs plan) k ss
      → Each HasShareEnded ss → EachFrom Did k ss
  each_did k [] each ended = tt
  each_did k (s ∷ ss) each ended = (
    of_ok s.ended (Did k s) each.0 ended.0,
    each_did (suc k) ss each.1 ended.1,
  )

  -- ALL PASSES are there, each that of its CPU
  passes_from : (k : ℕ) (ss : List Share) → EachFrom Did k ss
      → PassesFrom table k (map pass_of ss)
  passes_from k [] each = tt
  passes_from k (s ∷ ss) each = (
    record {
      part = each.0.pass;
      seated = each.0.seated;
      cpu = each.0.cpu_is;
      outside = each.0.outside;
    },
    passes_from (suc k) ss each.1,
  )

  length_passes : (ss : List Share) → length (map pass_of ss) ≡ length ss
  length_passes [] = refl
  length_passes (s ∷ ss) = ap suc (length_passes ss)

  -- a share was done, with this pass
  abbrev DidWith : ℕ → Share → PassView → Type 0
  DidWith c s p = (d : Did c s) × (d.pass ≡ p)

  -- the share of a number, with its pass among the parts of all
  pub record IsThere (k i : ℕ) (ss : List Share) : Type 0 where
    pub share : Share
    pub at : slice_get ss i ≡ Some share
    pub pass : PassView
    pub part : slice_get (parts_of (map pass_of ss)) i ≡ Some pass
    pub did : DidWith (k + i) share pass

  there : (k i : ℕ) (ss : List Share) → EachFrom Did k ss → i < length ss → IsThere k i ss
  there k i [] each low = absurd (omega (arith, low))
  there k zero (s ∷ ss) each low =
      let here : k ≡ k + 0 = omega arith in
      let parts = ap (λ (z : Option Seated). passes_of z ++ parts_of (map pass_of ss))
      each.0.seated in
      record {
        share = s;
        at = refl;
        pass = each.0.pass;
        part = ap (λ l. slice_get l 0) parts;
        did = subst (λ j. DidWith j s each.0.pass) here (each.0, refl);
      }
  there k (suc i) (s ∷ ss) each low =
      let more : suc k + i ≡ k + suc i = omega arith in
      let later = there (suc k) i ss each.1 (omega (arith, low)) in
      let parts = ap (λ (z : Option Seated). passes_of z ++ parts_of (map pass_of ss))
      each.0.seated in
      record {
        share = later.share;
        at = later.at;
        pass = later.pass;
        part = ap (λ l. slice_get l (suc i)) parts ∙ later.part;
        did = subst (λ j. DidWith j later.share later.pass) more later.did;
      }

  module _ (shares : List Share) (passes : List HeldPass) (lines : List Line)
      (each : EachFrom Did 0 shares) (count : length shares ≡ length o.cpus)
      (gathered : AreGathered shares passes lines) where
    pub all_passes : AreAllPasses table (length o.cpus) passes
    all_passes = subst (AreAllPasses table (length o.cpus)) (sym gathered.passes_are)
        (record { count = length_passes shares ∙ count; each = passes_from 0 shares each })

    -- THE ROUND
    module _ (w : World) (rests : EachRests) (end : IsEnd o w (parts_of passes))
        (whole : HasNoBaseBehind w) where
      share_of : (cpu : ℕ) → cpu < length o.cpus → IsThere 0 cpu shares
      share_of cpu low = there 0 cpu shares each (subst (λ n. cpu < n) (sym count) low)

      share_told : (cpu : ℕ) → cpu < length o.cpus
          → HasShare jobs o end.whole.world plan.due plan.ops cpu
          (map written_of (end.whole.pass cpu).receipts) (told_in (slice_get shares cpu))
      share_told cpu low =
          let s = end.whole in
          let is = share_of cpu low in
          let number : 0 + cpu ≡ cpu = omega arith in
          let done : DidWith cpu is.share is.pass
          = subst (λ j. DidWith j is.share is.pass) number is.did in
          let d = done.0 in
          let part : slice_get (parts_of passes) cpu ≡ Some is.pass
          = ap (λ l. slice_get (parts_of l) cpu) gathered.passes_are ∙ is.part in
          let same : d.pass ≡ s.pass cpu = done.1 ∙ end.passes_are cpu is.pass part in
          let due = contains plan.due cpu in
          let ops = own_ops cpu plan.ops in
          let online = (cpu_of o cpu).online in
          let tells : TellsShare (by_pass o (s.pass cpu)) o.clock cpu jobs due online ops
          (standing_at o cpu) d.last is.share.lines.items
          = subst (λ p. TellsShare (by_pass o p) o.clock cpu jobs due online ops
          (standing_at o cpu) d.last is.share.lines.items) same d.tells in
          let flags = end.shown.flags cpu in
          record {
            last = d.last;
            tells = subst (λ m. TellsShare (by_journals o s.world) o.clock cpu jobs due online ops
                (standing_at o cpu) d.last (told_in m)) (sym is.at)
                (share_more (by_pass o (s.pass cpu)) (by_journals o s.world) o.clock cpu
                (pass_known o s end.shown cpu) jobs due online ops (standing_at o cpu)
                d.last is.share.lines.items tells);
            wrote_is = d.wrote ∙ ap (λ (p : PassView). map written_of p.receipts) same;
            idle = sym flags.idle ∙ (ap (λ (p : PassView). p.idle) (sym same) ∙ d.idle);
            wakeup = sym flags.wakeup ∙ (ap (λ (p : PassView). p.wakeup) (sym same) ∙ d.wakeup);
          }

      pub is_round : IsRound jobs o plan.due plan.ops w lines
      is_round =
          let s = end.whole in
          let shown = end.shown in
          let settled = subst IsSettled (sym end.is) end.settled in
          let none_behind = subst HasNoBaseBehind (sym end.is) whole in
          subst (λ v. IsRound jobs o plan.due plan.ops v lines) end.is (record {
            wrote = λ c. map written_of (s.pass c).receipts;
            lines_of = λ c. told_in (slice_get shares c);
            written = are_written o s.world s.pass shown.noted.0 shown.noted.1;
            shares = share_told;
            told_are = gathered.lines_are
                ∙ (rows_by_number told_of (λ c. told_in (slice_get shares c)) 0 shares (λ i x at.
                let number : i ≡ 0 + i = omega arith in
                ap told_in (sym at) ∙ ap (λ j. told_in (slice_get shares j)) number)
                ∙ ap (λ n. flat_map (λ c. told_in (slice_get shares c)) (range_with_len 0 n))
                count);
            replays = shown.replayed;
            clock = shown.clock;
            tree = shown.same.tree;
            cpus = shown.same.cpus;
            timers = shown.same.timers;
            online = shown.online;
            left = shown.left;
            in_run = record {
              lawful = shown.fits.lawful;
              planned = shown.fits.planned;
              whole = none_behind;
              inside = settled.outside;
              marks = (rests s.world shown.fits.lawful settled).unmarked;
              walks = λ d. subst (WalkFits resting d) (sym (settled.free d)) refl;
            };
          })
