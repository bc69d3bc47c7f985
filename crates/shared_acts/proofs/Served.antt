-- for crates above: a try of a CPU, from its mark to its end, and tries and other work one behind
-- the other
use Rattle.std.proofs.Common.{◌≡◌, inl, inr, ℕ, ◌+◌, ◌^◌, ◌<◌, ◌≤◌}
use Rattle.std.proofs.Common.{List, [], ◌∷◌, ◌++◌, Result, Ok, Err, Contains, refl, sym, ap, ◌∙◌}
use Rattle.std.proofs.Common.{subst, subst₂, suc, arith, length-append}
use Rattle.std.proofs.Common.{Bool, true, false, length}
use Rattle.std.specs.Prelude.{MatchResult, not}
use Rattle.std.proofs.lemmas.List.{append-nil, append_assoc, map-append}
use Rattle.std.proofs.lemmas.List.Elements.{Contains-append_left, Contains-append_right}
use Rattle.std.proofs.lemmas.List.Elements.{Contains-push}
use Rattle.atomic_table.specs.Seated.{TableId}
use Rattle.tm_base.specs.declared.names.Class.{Class}
use Rattle.tm_base.specs.declared.names.Class.TheVariants.{Global}
use Rattle.tm_base.specs.declared.faults.NoMemory.{NoMemory}
use Rattle.wheel_core.specs.declared.item.Item.{Item}
use Rattle.cpu_bases.specs.declared.entry.Act.{Act}
use Rattle.cpu_bases.specs.declared.entry.Act.TheVariants.{Armed, Cancelled, Handed, MovedIn}
use Rattle.cpu_bases.specs.declared.entry.Act.TheVariants.{MovedOut, Ticked}
use Rattle.core_world.specs.World.{World, cpu_of}
use Rattle.job_table.specs.declared.jobs.JobCall.{JobCall}
use Rattle.job_table.specs.declared.jobs.JobReply.{JobReply}
use Rattle.shared_timers.specs.shared_rule.declared.parts.Deed.{Deed}
use Rattle.shared_timers.specs.shared_rule.declared.parts.Deed.TheVariants as deeds
use Rattle.shared_timers.specs.shared_rule.declared.parts.Did.{Did}
use Rattle.shared_timers.specs.shared_rule.declared.parts.PassView.{PassView}
use Rattle.shared_timers.specs.shared_rule.declared.parts.Receipt.{Receipt}
use Rattle.shared_timers.specs.shared_rule.Passes.{HeldPass}
use Rattle.shared_acts.specs.declared.runs.Ran.{Ran}
use Rattle.shared_acts.specs.Following.{Follows, FollowsArmed, FollowsBy, FollowsOut, Owed}
use Rattle.shared_acts.specs.Following.{RunsOfSome}
use Rattle.shared_acts.specs.Looks.{IsClosed, IsServed}
use Rattle.shared_acts.specs.Pieces.{PassGains, HandsOutItems, HeldInside, IsInside, IsTick, Piece, RanAll}
use Rattle.shared_acts.specs.Pieces.{RanSome, Works, deeds_of}
use Rattle.shared_acts.specs.Tries.{AtWork, BreaksOffPass, HasLeftAlone, HasLetGo, HasTakenTimers, HasTried}
use Rattle.shared_acts.specs.Tries.{TakesOrLeaves, with_marks}
use Rattle.shared_acts.proofs.Follow.{Wider, follow, follow_wider}
use Rattle.shared_acts.proofs.Gaining as gaining
use Rattle.shared_acts.proofs.Trials.{gains_with}

-- the deeds of two lists
pub deeds_behind : (did later : List Did) → deeds_of (did ++ later) ≡ deeds_of did ++ deeds_of later
deeds_behind did later = map-append (λ (x : Did). x.deed) did later

-- AT WORK after a piece
pub still_at_work : (table : TableId) (o : World) (marks : List ℕ) (left more : ℕ)
    (held after : HeldPass) (receipts : List Receipt) (did : List Did) (walks : ℕ)
    → AtWork table o marks left held → Piece table held after receipts did walks
    → walks + more ≤ left → AtWork table o marks more after
still_at_work table o marks left more held after receipts did walks was piece room =
    let same = gaining.same_pass table held piece.before was.pass piece.had was.seated in
    let gains = subst (λ (x : PassView). PassGains x piece.later receipts did walks) same piece.gains in
    let inside = gaining.still_inside table o held after receipts did walks
    (record { pass = was.pass; seated = was.seated; is = was.is }) piece in
    let it = gaining.same_pass table after inside.pass piece.later inside.seated piece.has in
    record {
      pass = piece.later;
      seated = piece.has;
      is = subst (IsInside o) it inside.is;
      marked = gains.marks ∙ was.marked;
      few =
          (let few = was.few in
          let are = gains.walks_are in
          omega (arith, few, are, room));
    }

pub inside_of : (table : TableId) (o : World) (marks : List ℕ) (left : ℕ) (held : HeldPass)
    → AtWork table o marks left held → HeldInside table o held
inside_of table o marks left held was =
    record { pass = was.pass; seated = was.seated; is = was.is }

pub fewer_left : (table : TableId) (o : World) (marks : List ℕ) (left more : ℕ)
    (held : HeldPass) → more ≤ left → AtWork table o marks left held
    → AtWork table o marks more held
fewer_left table o marks left more held less was = record {
  pass = was.pass;
  seated = was.seated;
  is = was.is;
  marked = was.marked;
  few = (let few = was.few in omega (arith, few, less));
}

-- SOME of the hand-outs: those that all are told, and some that follow
abbrev Adds : (rest : List Owed → List Ran → Type 0) → List Receipt → List Ran → Type 0
Adds rest rs behind = (owed : List Owed) (runs : List Ran) → rest owed runs
    → RunsOfSome rs (runs ++ behind)

some_more : (r : Receipt) (rs : List Receipt) (runs : List Ran) → RunsOfSome rs runs
    → RunsOfSome (r ∷ rs) runs
unfolding RunsOfSome
some_more r rs [] h = tt
some_more r rs (x ∷ xs) h = inr h

out_some : (o : World) (jobs : ℕ → JobCall → JobReply) (runner : ℕ) (seen : List Did)
    (place : ℕ) (r : Receipt) (rs : List Receipt) (rest : List Owed → List Ran → Type 0) (owed : List Owed)
    (runs behind : List Ran) → r.entry.act ≡ Handed → Adds rest rs behind
    → FollowsOut o jobs runner seen place r rest owed runs → RunsOfSome (r ∷ rs) (runs ++ behind)
unfolding RunsOfSome
out_some o jobs runner seen place r rs rest owed [] behind is on h = absurd h
out_some o jobs runner seen place r rs rest owed (x ∷ xs) behind is on h =
    inl (is, h.0, on _ xs h.2)

armed_some : (now runner : ℕ) (r : Receipt) (rs : List Receipt)
    (rest : List Owed → List Ran → Type 0) (owed : List Owed) (runs behind : List Ran)
    → Adds rest rs behind → FollowsArmed now runner r rest owed runs
    → RunsOfSome (r ∷ rs) (runs ++ behind)
armed_some now runner r rs rest [] runs behind on h = absurd h
armed_some now runner r rs rest (x ∷ owed) runs behind on h =
    some_more r rs (runs ++ behind) (on owed runs h.1)

act_some : (o : World) (jobs : ℕ → JobCall → JobReply) (runner : ℕ) (seen : List Did)
    (place : ℕ) (act : Act) (r : Receipt) (rs : List Receipt) (rest : List Owed → List Ran → Type 0)
    (owed : List Owed) (runs behind : List Ran) → r.entry.act ≡ act → Adds rest rs behind
    → FollowsBy o jobs runner seen place act r rest owed runs
    → RunsOfSome (r ∷ rs) (runs ++ behind)
act_some o jobs runner seen place Armed r rs rest owed runs behind is on h =
    armed_some o.clock runner r rs rest owed runs behind on h
act_some o jobs runner seen place Handed r rs rest owed runs behind is on h =
    out_some o jobs runner seen place r rs rest owed runs behind is on h
act_some o jobs runner seen place Cancelled r rs rest owed runs behind is on h = absurd h
act_some o jobs runner seen place MovedOut r rs rest owed runs behind is on h = absurd h
act_some o jobs runner seen place MovedIn r rs rest owed runs behind is on h = absurd h
act_some o jobs runner seen place Ticked r rs rest owed runs behind is on h =
    some_more r rs (runs ++ behind) (on owed runs h)

pub some_behind : (o : World) (jobs : ℕ → JobCall → JobReply) (runner : ℕ) (seen : List Did)
    (place : ℕ) (rs more : List Receipt) (owed : List Owed) (runs behind : List Ran)
    → Follows o jobs runner seen place rs owed runs → RunsOfSome more behind
    → RunsOfSome (rs ++ more) (runs ++ behind)
unfolding Follows
some_behind o jobs runner seen place [] more owed runs behind h later =
    subst (λ xs. RunsOfSome more (xs ++ behind)) (sym h.1) later
some_behind o jobs runner seen place (r ∷ rs) more owed runs behind h later =
    act_some o jobs runner seen place r.entry.act r (rs ++ more)
    (Follows o jobs runner seen (suc place) rs) owed runs behind refl
    (λ x y k. some_behind o jobs runner seen (suc place) rs more x y behind k later) h

-- WORK after work
pub works_then : (table : TableId) (o : World) (jobs : ℕ → JobCall → JobReply)
    (held mid after : HeldPass) (first next last : List Ran) (walks others : ℕ)
    (receipts more : List Receipt) (did later : List Did)
    → Works table o jobs held mid first next walks receipts did
    → Works table o jobs mid after next last others more later
    → Works table o jobs held after first last (walks + others) (receipts ++ more) (did ++ later)
works_then table o jobs held mid after first next last walks others receipts more did later was then =
    let same : mid.cpu ≡ held.cpu = was.piece.cpu in
    let seen = did ++ later in
    let place = length was.piece.before.receipts in
    let behind : length then.piece.before.receipts ≡ place + length receipts =
    gaining.receipts_then table held mid after receipts more did later walks others was.piece
    then.piece in
    record {
      told = was.told ++ then.told;
      piece =
          gaining.piece_then table held mid after receipts more did later walks others was.piece
          then.piece;
      runs_are =
          then.runs_are ∙ (ap (λ (l : List Ran). l ++ then.told) was.runs_are
          ∙ append_assoc first was.told then.told);
      follows =
          follow o jobs held.cpu seen place receipts more [] was.told then.told
          (follow_wider o jobs held.cpu did seen place receipts [] was.told
          (Contains-append_left did later) was.follows)
          (follow_wider o jobs held.cpu later seen (place + length receipts) more [] then.told
          (Contains-append_right did later)
          (subst₂ (λ n k. Follows o jobs n later k more [] then.told) same behind then.follows));
    }

-- and work that was broken off
pub works_break : (table : TableId) (o : World) (jobs : ℕ → JobCall → JobReply)
    (held mid after : HeldPass) (first next last : List Ran) (walks most all : ℕ)
    (receipts : List Receipt) (did : List Did)
    → Works table o jobs held mid first next walks receipts did
    → BreaksOffPass table most mid after next last → walks + most ≤ all
    → BreaksOffPass table all held after first last
works_break table o jobs held mid after first next last walks most all receipts did was off room =
    let breaks = off.breaks in
    record {
      walks = walks + off.walks;
      few = (let few = off.few in omega (arith, few, room));
      breaks =
          record {
            receipts = receipts ++ breaks.receipts;
            did = did ++ breaks.did;
            told = was.told ++ breaks.told;
            piece =
                gaining.piece_then table held mid after receipts breaks.receipts did breaks.did walks
                off.walks was.piece breaks.piece;
            runs_are =
                breaks.runs_are ∙ (ap (λ (l : List Ran). l ++ breaks.told) was.runs_are
                ∙ append_assoc first was.told breaks.told);
            some =
                some_behind o jobs held.cpu did (length was.piece.before.receipts) receipts
                breaks.receipts [] was.told breaks.told was.follows breaks.some;
          };
    }

-- with more walks at most
pub more_off : (table : TableId) (held after : HeldPass) (first last : List Ran) (most all : ℕ)
    → most ≤ all → BreaksOffPass table most held after first last
    → BreaksOffPass table all held after first last
more_off table held after first last most all less off = record {
  walks = off.walks;
  few = (let few = off.few in omega (arith, few, less));
  breaks = off.breaks;
}

-- a piece without a receipt and a run is work
pub idle_work : (table : TableId) (o : World) (jobs : ℕ → JobCall → JobReply)
    (held after : HeldPass) (did : List Did) (walks : ℕ) (first last : List Ran) → last ≡ first
    → Piece table held after [] did walks
    → Works table o jobs held after first last walks [] did
unfolding Follows
idle_work table o jobs held after did walks first last same piece = record {
  told = [];
  piece = piece;
  runs_are = same ∙ sym (append-nil first);
  follows = (refl, refl);
}

-- nothing done, for want of memory
pub no_work : (table : TableId) (held after : HeldPass) (most : ℕ) (first last : List Ran)
    → last ≡ first → Piece table held after [] [] 0 → BreaksOffPass table most held after first last
unfolding RunsOfSome
no_work table held after most first last same piece = record {
  walks = 0;
  few = omega arith;
  breaks =
      record {
        receipts = [];
        did = [];
        told = [];
        piece = piece;
        runs_are = same ∙ sym (append-nil first);
        some = refl;
      };
}

-- THE DRAIN of a hand-out
pub tick_of : (home runner : ℕ) (class : Class) (items : List Item) (rs : List Receipt)
    → HandsOutItems home runner class items rs
    → (r : Receipt) × Contains rs r × IsTick home runner class r
unfolding HandsOutItems
tick_of home runner class [] rs h =
    (h.0, subst (λ l. Contains l h.0) (sym h.1) (Contains-push [] h.0), h.2)
tick_of home runner class (i ∷ is) [] h = absurd h
tick_of home runner class (i ∷ is) (r ∷ rs) h =
    let rest = tick_of home runner class is rs h.1 in
    (rest.0, Contains-append_right (r ∷ []) rs rest.0 rest.1, rest.2)

-- LEFT ALONE, a CPU was tried
pub tried_left : (table : TableId) (o : World) (jobs : ℕ → JobCall → JobReply) (d : ℕ)
    (held after : HeldPass) (first last : List Ran) → last ≡ first → HasLeftAlone table o d held after
    → HasTried table o jobs d held after first last
tried_left table o jobs d held after first last same left = record {
  walks = 0;
  receipts = [];
  did = left.did;
  few = omega arith;
  works = idle_work table o jobs held after left.did 0 first last same left.piece;
  tried = inr left.left;
}

-- with the mark that a pass had set gone it has gained this
module _ (table : TableId) (o : World) (jobs : ℕ → JobCall → JobReply) (d : ℕ)
    (items : List Item) (held mid ran after : HeldPass) (was : AtWork table o [] 1 held)
    (taken : HasTakenTimers table o d items held mid) (receipts : List Receipt) (did : List Did)
    (piece : Piece table mid ran receipts did 0) (gone : HasLetGo table o d ran after) where
  abbrev all : List Did
  all = (taken.did ++ did) ++ gone.did

  abbrev whole : Piece table held after (taken.receipts ++ receipts) all (0 + 0 + gone.walks)
  whole =
      let p = taken.before in
      let q = piece.before in
      let r = piece.later in
      let same = gaining.same_pass table mid q taken.later piece.had taken.has in
      let later = gaining.same_pass table ran gone.before r gone.had piece.has in
      let known = gaining.same_pass table held p was.pass taken.had was.seated in
      let none : p.marks ≡ [] = ap (λ (x : PassView). x.marks) known ∙ was.marked in
      let one = gains_with [] (with_marks (d ∷ []) p) taken.later taken.receipts taken.did 0
      taken.gains in
      let two = gains_with [] q r receipts did 0 piece.gains in
      let three = subst (λ (x : PassView). PassGains (with_marks [] x) gone.later [] gone.did gone.walks)
      later gone.gains in
      let both = gaining.gains_then (with_marks [] p) (with_marks [] taken.later) (with_marks [] r)
      taken.receipts receipts taken.did did 0 0 one
      (subst (λ (x : PassView). PassGains (with_marks [] x) (with_marks [] r) receipts did 0) same two) in
      let gains = gaining.gains_then (with_marks [] p) (with_marks [] r) gone.later
      (taken.receipts ++ receipts) [] (taken.did ++ did) gone.did (0 + 0) gone.walks both three in
      record {
        before = p;
        later = gone.later;
        had = taken.had;
        has = gone.has;
        cpu = gone.cpu ∙ (piece.cpu ∙ taken.cpu);
        gains =
            subst (λ (l : List Receipt). PassGains p gone.later l all (0 + 0 + gone.walks))
            (append-nil (taken.receipts ++ receipts))
            (subst (λ (m : List ℕ). PassGains (record p { marks = m }) gone.later
            ((taken.receipts ++ receipts) ++ []) all (0 + 0 + gone.walks)) (sym none) gains);
      }

  few : 0 + 0 + gone.walks ≤ 1
  few = let low = gone.few in omega (arith, low)

  closed : IsClosed o d (deeds_of all)
  closed =
      let path : deeds_of all
      ≡ taken.loads ++ deeds.Took d ∷ deeds_of did ++ deeds_of gone.did =
      deeds_behind (taken.did ++ did) gone.did
      ∙ (ap (λ l. l ++ deeds_of gone.did) (deeds_behind taken.did did)
      ∙ (ap (λ l. (l ++ deeds_of did) ++ deeds_of gone.did) taken.ends
      ∙ ap (λ (l : List Deed). l ++ deeds_of gone.did)
      (append_assoc taken.loads (deeds.Took d ∷ []) (deeds_of did)))) in
      subst (IsClosed o d) (sym path) (gone.closed taken.loads (deeds_of did))

  served : IsServed o held.cpu d (deeds_of all) (taken.receipts ++ receipts)
  served =
      let tick = tick_of d held.cpu Global items taken.receipts taken.outs in
      record {
        drain = tick.0;
        has = Contains-append_left taken.receipts receipts tick.0 tick.1;
        home = tick.2.cpu;
        act = tick.2.act;
        class = tick.2.of_class;
        by = tick.2.by;
        closed = closed;
      }

  wider : Wider did all
  wider x has =
      Contains-append_left (taken.did ++ did) gone.did x
      (Contains-append_right taken.did did x has)

  -- the hand-outs were the last receipts before the jobs
  stood_last : length taken.before.receipts + length taken.receipts
      ≡ length piece.before.receipts
  stood_last =
      let same = gaining.same_pass table mid piece.before taken.later piece.had taken.has in
      sym (ap (λ (x : PassView). length x.receipts) same
      ∙ (ap length taken.gains.receipts_are
      ∙ length-append taken.before.receipts taken.receipts))

  -- SERVED
  tried_served : (first last told : List Ran) → last ≡ first ++ told
      → ((class : Class) (outs : List Receipt) (place : ℕ)
      → place + length outs ≡ length piece.before.receipts
      → HandsOutItems d mid.cpu class items outs
      → Follows o jobs mid.cpu did place (outs ++ receipts) [] told)
      → HasTried table o jobs d held after first last
  tried_served first last told runs_are follows = record {
    walks = 0 + 0 + gone.walks;
    receipts = taken.receipts ++ receipts;
    did = all;
    few = few;
    works =
        record {
          told = told;
          piece = whole;
          runs_are = runs_are;
          follows =
              follow_wider o jobs held.cpu did all (length taken.before.receipts)
              (taken.receipts ++ receipts) [] told wider
              (subst (λ n. HandsOutItems d n Global items taken.receipts →
              Follows o jobs n did (length taken.before.receipts) (taken.receipts ++ receipts) []
              told) taken.cpu
              (follows Global taken.receipts (length taken.before.receipts) stood_last)
              taken.outs);
        };
    tried = inl served;
  }

  -- and where memory was wanting
  served_some : (first last told : List Ran) → last ≡ first ++ told
      → ((class : Class) (outs : List Receipt) → HandsOutItems d mid.cpu class items outs →
      RunsOfSome (outs ++ receipts) told) → BreaksOffPass table 1 held after first last
  served_some first last told runs_are some = record {
    walks = 0 + 0 + gone.walks;
    few = few;
    breaks =
        record {
          receipts = taken.receipts ++ receipts;
          did = all;
          told = told;
          piece = whole;
          runs_are = runs_are;
          some =
              some Global taken.receipts
              (subst (λ n. HandsOutItems d n Global items taken.receipts) (sym taken.cpu) taken.outs);
        };
  }

-- either way, by what the jobs came to
pub served_either : (table : TableId) (o : World) (jobs : ℕ → JobCall → JobReply) (d : ℕ)
    (items : List Item) (held mid ran after : HeldPass) (first now last : List Ran)
    (result : Result (Unit {0}) NoMemory) → AtWork table o [] 1 held
    → HasTakenTimers table o d items held mid → now ≡ first
    → MatchResult result (λ done. RanAll table o jobs d items mid ran now last)
    (λ e. RanSome table d items mid ran now last) → HasLetGo table o d ran after
    → MatchResult result (λ done. HasTried table o jobs d held after first last)
    (λ e. BreaksOffPass table 1 held after first last)
served_either table o jobs d items held mid ran after first now last (Ok done) was taken same all gone =
    tried_served table o jobs d items held mid ran after was taken all.receipts all.did all.piece gone
    first last all.told (all.runs_are ∙ ap (λ (l : List Ran). l ++ all.told) same) all.follows
served_either table o jobs d items held mid ran after first now last (Err e) was taken same some gone =
    served_some table o jobs d items held mid ran after was taken some.receipts some.did some.piece gone
    first last some.told (some.runs_are ∙ ap (λ (l : List Ran). l ++ some.told) same) some.some

-- THE STEPS of a try
pub has_taken : (table : TableId) (o : World) (d : ℕ) (items : List Item) (held mid : HeldPass)
    (taken : Bool) → not taken ≡ false → TakesOrLeaves table o d items held mid taken
    → HasTakenTimers table o d items held mid
has_taken table o d items held mid true is has = has
has_taken table o d items held mid false is has = cc

pub has_left : (table : TableId) (o : World) (d : ℕ) (items : List Item) (held mid : HeldPass)
    (taken : Bool) → not taken ≡ true → TakesOrLeaves table o d items held mid taken
    → HasLeftAlone table o d held mid
has_left table o d items held mid true is has = cc
has_left table o d items held mid false is has = has

-- with the mark set the CPU is still at work
pub taken_work : (table : TableId) (o : World) (d : ℕ) (items : List Item) (held mid : HeldPass)
    → AtWork table o [] 1 held → HasTakenTimers table o d items held mid
    → AtWork table o (d ∷ []) 1 mid
taken_work table o d items held mid was taken =
    let same = gaining.same_pass table held was.pass taken.before was.seated taken.had in
    let is = subst (IsInside o) same was.is in
    let gains = taken.gains in
    record {
      pass = taken.later;
      seated = taken.has;
      is =
          record {
            opening = gains.opening ∙ is.opening;
            cpu = subst (λ n. n < length o.cpus) (sym gains.cpu) is.cpu;
            online = ap (λ n. (cpu_of o n).online) gains.cpu ∙ is.online;
            inside = gains.inside ∙ is.inside;
            goes_on = gains.reeval ∙ is.goes_on;
          };
      marked = gains.marks;
      few =
          (let few = subst (λ (x : PassView). x.walks + 1 < 2 ^ 32) same was.few in
          let are = gains.walks_are in omega (arith, few, are));
    }

-- and so after the jobs
pub ran_work : (table : TableId) (o : World) (jobs : ℕ → JobCall → JobReply) (d : ℕ)
    (items : List Item) (mid ran : HeldPass) (now last : List Ran)
    (result : Result (Unit {0}) NoMemory) → AtWork table o (d ∷ []) 1 mid
    → MatchResult result (λ done. RanAll table o jobs d items mid ran now last)
    (λ e. RanSome table d items mid ran now last) → AtWork table o (d ∷ []) 1 ran
ran_work table o jobs d items mid ran now last (Ok done) was all =
    still_at_work table o (d ∷ []) 1 1 mid ran all.receipts all.did 0 was all.piece (omega arith)
ran_work table o jobs d items mid ran now last (Err e) was some =
    still_at_work table o (d ∷ []) 1 1 mid ran some.receipts some.did 0 was some.piece (omega arith)
