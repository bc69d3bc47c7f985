-- what a round of a look leaves, by what the look loaded
use Rattle.std.proofs.Common.{◌≡◌, inl, inr, ℕ, ◌+◌, ◌<◌, ◌≤◌, List, [], ◌∷◌, ◌++◌, Some, None}
use Rattle.std.proofs.Common.{refl}
use Rattle.std.proofs.Common.{sym, ap, ◌∙◌, subst, length, map, arith}
use Rattle.std.proofs.lemmas.List.{append-nil, append_assoc}
use Rattle.std.specs.FinSet.{insert}
use Rattle.atomic_table.specs.Seated.{TableId}
use Rattle.tm_base.specs.CpuSet as cpus
use Rattle.tm_base.specs.declared.names.CpuId.{CpuId}
use Rattle.tree_plan.specs.Paths.{group_at_of}
use Rattle.core_world.specs.World.{World}
use Rattle.job_table.specs.declared.jobs.JobCall.{JobCall}
use Rattle.job_table.specs.declared.jobs.JobReply.{JobReply}
use Rattle.walk_inactive.specs.shared_rule.declared.parts.Deed.{Deed}
use Rattle.walk_inactive.specs.shared_rule.declared.parts.Did.{Did}
use Rattle.walk_inactive.specs.shared_rule.declared.parts.Look.{Look}
use Rattle.walk_inactive.specs.shared_rule.declared.parts.PassView.{PassView}
use Rattle.walk_inactive.specs.shared_rule.Plays.{seen_pass}
use Rattle.walk_inactive.specs.shared_rule.Passes.{HeldPass, IsPassIn, with_pass}
use Rattle.shared_acts.specs.shared_looks.Looks.{seen_all}
use Rattle.shared_acts.specs.shared_looks.Sights.{IsOthers, ShowsDue, ShowsNothing, slot_looks}
use Rattle.shared_acts.specs.shared_looks.Sights.{state_look}
use Rattle.shared_acts.specs.declared.runs.Ran.{Ran}
use Rattle.shared_acts.specs.Interrupts.{walks_by}
use Rattle.shared_acts.specs.Looks.{IsTried, saw}
use Rattle.shared_acts.specs.Pieces.{Piece, deeds_of}
use Rattle.shared_acts.specs.Tries.{HasTried}
use Rattle.remote_expiry.specs.Trying.{BreaksRound, SeesEnd, SeesNothing, StopsPass, TriesOne}
use Rattle.shared_acts.proofs.Gaining as gaining
use Rattle.shared_acts.proofs.Served.{idle_work, works_then}
use Rattle.remote_expiry.specs.Order.{BeginsWhere}
use Rattle.remote_expiry.proofs.Begun.{loads_begin}
use Rattle.remote_expiry.proofs.Levels.{tried_before}
use Rattle.remote_expiry.proofs.Stopped.{stops_after}

-- loads as deeds, done when the pass had so many receipts
abbrev pub loads : (held : ℕ) → List Look → List Did
loads held xs = map (λ (x : Look). record { held = held; deed = saw x }) xs

loads_deeds : (held : ℕ) (xs : List Look) → deeds_of (loads held xs) ≡ map saw xs
loads_deeds held [] = refl
loads_deeds held (x ∷ xs) = ap (λ (l : List Deed). saw x ∷ l) (loads_deeds held xs)

-- no walk is begun by them
no_walk : (held : ℕ) (xs : List Look) → walks_by (deeds_of (loads held xs)) ≡ 0
no_walk held [] = refl
no_walk held (x ∷ xs) = no_walk held xs

-- a pass after loads has them behind what it did before
seen_as : (xs : List Look) (p : PassView)
    → seen_all xs p ≡ record p { did = p.did ++ loads (length p.receipts) xs }
seen_as [] p = λ i. record p { did = sym (append-nil p.did) i }
seen_as (x ∷ xs) p =
    seen_as xs (seen_pass x.word x.found p)
    ∙ (λ i. record p {
      did =
          append_assoc p.did (record { held = length p.receipts; deed = saw x } ∷ [])
          (loads (length p.receipts) xs) i;
    })

-- THE LOADS are a piece
pub seen_piece : (table : TableId) (held after : HeldPass) (p : PassView) (xs : List Look)
    → IsPassIn table held p → after ≡ with_pass (seen_all xs) held
    → Piece table held after [] (loads (length p.receipts) xs) 0
seen_piece table held after p xs is same =
    let did = loads (length p.receipts) xs in
    record {
      before = p;
      later = record p { did = p.did ++ did };
      had = is;
      has =
          ap (λ (z : HeldPass). z.seated) same
          ∙ (ap (λ s. (with_pass (seen_all xs) (record held { seated = s })).seated) is
          ∙ (λ i. Some (record { table = table; pass = seen_as xs p i })));
      cpu = ap (λ (z : HeldPass). z.cpu) same;
      gains =
          record {
            opening = refl;
            cpu = refl;
            walks_are = omega arith;
            ended = sym (no_walk (length p.receipts) xs);
            receipts_are = sym (append-nil p.receipts);
            did_are = refl;
            idle = refl;
            inside = refl;
            reeval = refl;
            wakeup = refl;
            marks = refl;
            journal = gaining.begins p.journal;
            known = λ known. known;
          };
    }

-- NOTHING is due any more
pub sees_nothing : (table : TableId) (o : World) (now level : ℕ) (tried : cpus.Cpus)
    (held after : HeldPass) (p : PassView) → IsPassIn table held p → now ≡ o.clock
    → ShowsNothing o now tried held.cpu level held after
    → SeesNothing table o level tried held after
sees_nothing table o now level tried held after p is clock shows =
    let seen = shows.seen in
    let xs = state_look o seen.group seen.word ∷ slot_looks o seen.group 0 seen.founds in
    record {
      did = loads (length p.receipts) xs;
      piece = seen_piece table held after p xs is seen.pass_is;
      group = seen.group;
      path = seen.path;
      word = seen.word;
      looks = seen.looks;
      founds = seen.founds;
      eight = seen.eight;
      loads = loads_deeds (length p.receipts) xs;
      none = λ k e at due. shows.none k e at (record {
        counts = due.counts;
        come = subst (λ n. e.expiry ≤ n) (sym clock) due.come;
        untried = due.untried;
      });
      begins = λ q seated.
          subst (λ (x : PassView). BeginsWhere (length x.receipts) (loads (length p.receipts) xs))
          (gaining.same_pass table held p q is seated) (loads_begin (length p.receipts) xs);
    }

-- NO GROUP is there, or another CPU looks after it
pub sees_no_group : (table : TableId) (o : World) (level : ℕ) (held after : HeldPass)
    (p : PassView) → IsPassIn table held p → group_at_of o.tree held.cpu level ≡ None
    → after ≡ held → SeesEnd table o level held after
sees_no_group table o level held after p is none same = record {
  did = [];
  piece =
      subst (λ (z : HeldPass). Piece table held z [] [] 0) (sym same)
      (gaining.no_piece table held p is);
  end = inl none;
  begins = λ q seated. tt;
}

pub sees_others : (table : TableId) (o : World) (level : ℕ) (held after : HeldPass)
    (p : PassView) → IsPassIn table held p → IsOthers o held.cpu level held after
    → SeesEnd table o level held after
sees_others table o level held after p is others =
    let xs = state_look o others.group others.word ∷ [] in
    record {
      did = loads (length p.receipts) xs;
      piece = seen_piece table held after p xs is others.pass_is;
      end = inr (record {
        before = [];
        group = others.group;
        path = others.path;
        word = others.word;
        other = others.other;
        rest = [];
        load = refl;
      });
      begins = λ q seated.
          subst (λ (x : PassView). BeginsWhere (length x.receipts) (loads (length p.receipts) xs))
          (gaining.same_pass table held p q is seated) (loads_begin (length p.receipts) xs);
    }

-- loads with deeds behind them
pub begins_with : (n : ℕ) (x : Look) (xs : List Look) (did : List Did)
    → BeginsWhere n (loads n (x ∷ xs) ++ did)
begins_with n x xs did = omega arith

-- A CPU was due and is tried
pub due_piece : (table : TableId) (o : World) (now level : ℕ) (tried : cpus.Cpus)
    (held after : HeldPass) (due : CpuId) (p : PassView) → IsPassIn table held p
    → ShowsDue table o now tried held.cpu level held after due
    → (did : List Did) × Piece table held after [] did 0
due_piece table o now level tried held after due p is shows =
    let seen = shows.seen in
    let xs = state_look o seen.group seen.word ∷ slot_looks o seen.group 0 seen.founds in
    (loads (length p.receipts) xs, seen_piece table held after p xs is seen.pass_is)

due_begins : (table : TableId) (o : World) (now level : ℕ) (tried : cpus.Cpus)
    (held after : HeldPass) (due : CpuId) (p : PassView) (is : IsPassIn table held p)
    (shows : ShowsDue table o now tried held.cpu level held after due) (did : List Did)
    → BeginsWhere (length p.receipts)
    ((due_piece table o now level tried held after due p is shows).0 ++ did)
unfolding due_piece
due_begins table o now level tried held after due p is shows did =
    begins_with (length p.receipts) (state_look o shows.seen.group shows.seen.word)
    (slot_looks o shows.seen.group 0 shows.seen.founds) did

pub tries_one : (table : TableId) (o : World) (jobs : ℕ → JobCall → JobReply) (now level : ℕ)
    (old new : cpus.Cpus) (held mid after : HeldPass) (first last : List Ran) (due : CpuId)
    (p : PassView) → IsPassIn table held p → p.opening ≡ o
    → ShowsDue table o now old held.cpu level held mid due → new ≡ insert old due.0
    → HasTried table o jobs due.0 mid after first last
    → TriesOne table o jobs old new held after first last
tries_one table o jobs now level old new held mid after first last due p is opening shows added tried =
    let piece = due_piece table o now level old held mid due p is shows in
    let same : mid.cpu ≡ held.cpu = piece.1.cpu in
    record {
      due = due.0;
      of_run = subst (λ (w : World). due.0 < length w.cpus) opening (shows.of_run p is).0;
      untried = λ has.
          shows.first.fits.untried
          (subst (λ (c : CpuId). cpus.Contains old c.0) (sym shows.cpu_is) has);
      added = added;
      walks = 0 + tried.walks;
      receipts = [] ++ tried.receipts;
      did = piece.0 ++ tried.did;
      few = (let few = tried.few in omega (arith, few));
      works =
          works_then table o jobs held mid after first first last 0 tried.walks [] tried.receipts piece.0
          tried.did (idle_work table o jobs held mid piece.0 0 first first refl piece.1) tried.works;
      tried =
          tried_before o held.cpu due.0 piece.0 tried.did [] tried.receipts
          (subst (λ n. IsTried o n (deeds_of tried.did) tried.receipts due.0) same tried.tried);
      begins = λ q seated.
          subst (λ (x : PassView). BeginsWhere (length x.receipts) (piece.0 ++ tried.did))
          (gaining.same_pass table held p q is seated)
          (due_begins table o now level old held mid due p is shows tried.did);
    }

-- or its try was broken off
pub round_off : (table : TableId) (o : World) (jobs : ℕ → JobCall → JobReply) (now level : ℕ)
    (old : cpus.Cpus) (held mid after : HeldPass) (first last : List Ran) (due : CpuId)
    (p : PassView) → IsPassIn table held p → p.opening ≡ o
    → ShowsDue table o now old held.cpu level held mid due
    → StopsPass table o jobs 1 mid after first last → BreaksRound table o jobs old held after first last
round_off table o jobs now level old held mid after first last due p is opening shows off =
    let piece = due_piece table o now level old held mid due p is shows in
    record {
      due = due.0;
      of_run = subst (λ (w : World). due.0 < length w.cpus) opening (shows.of_run p is).0;
      untried = λ has.
          shows.first.fits.untried
          (subst (λ (c : CpuId). cpus.Contains old c.0) (sym shows.cpu_is) has);
      off =
          stops_after table o jobs held mid after first first last 0 1 1 [] piece.0
          (idle_work table o jobs held mid piece.0 0 first first refl piece.1) off (omega arith);
    }
