-- what a share tells of what it wrote: as many timers as run as were handed out; and what was armed
-- isn't asked for in the past
use Rattle.std.proofs.Common.{◌≡◌, ℕ, suc, ◌+◌, ◌≤◌, List, [], ◌∷◌, ◌++◌, Bool, true}
use Rattle.std.proofs.Common.{false, Option, Some, None, refl, sym, ap, ◌∙◌, subst, arith, inl, inr}
use Rattle.std.proofs.Common.{cond, length}
use Rattle.std.specs.Prelude.{All, filter}
use Rattle.std.proofs.lemmas.List.{append-nil, append_assoc, length-append}
use Rattle.std.proofs.lemmas.List.Elements.{All-append, All-cons, All-nil, filter-append}
use Rattle.tm_base.specs.declared.faults.OpFault.{OpFault}
use Rattle.tm_base.specs.declared.faults.OpFault.TheVariants as faults
use Rattle.tm_base.specs.declared.names.CpuId.{CpuId}
use Rattle.tm_script.specs.declared.syntax.Op.{Op}
use Rattle.tm_script.specs.declared.syntax.What.{What}
use Rattle.tm_script.specs.declared.syntax.What.TheVariants as whats
use Rattle.cpu_bases.specs.declared.entry.Act.{Act}
use Rattle.cpu_bases.specs.declared.entry.Act.TheVariants.{Armed, Cancelled, Handed, MovedIn}
use Rattle.cpu_bases.specs.declared.entry.Act.TheVariants.{MovedOut, Ticked}
use Rattle.tm_report.specs.declared.lines.Line.{Line}
use Rattle.play_rules.specs.Interrupts.{Replies}
use Rattle.play_rules.specs.Operations.{refused_line}
use Rattle.run_story.specs.Runs.{OwedTimer, Queues, TellsByAct, TellsRuns}
use Rattle.run_story.specs.Shares.{Known, Standing, TellsByRefusal, TellsDone, TellsIfDue, TellsOp}
use Rattle.run_story.specs.Shares.{TellsOps, TellsShare, fault_of}
use Rattle.run_story.specs.Stories.{is_run, runs_told}
use Rattle.run_story.specs.Written.{WrittenEntry}

-- whether it was handed out
abbrev pub hands_out : Act → Bool
hands_out Handed = true
hands_out Armed = false
hands_out Cancelled = false
hands_out MovedOut = false
hands_out MovedIn = false
hands_out Ticked = false

abbrev pub is_handed : WrittenEntry → Bool
is_handed x = hands_out x.entry.act

pub handed_act : (act : Act) → hands_out act ≡ true → act ≡ Handed
handed_act Handed is = refl
handed_act Armed is = absurd (let no : false ≡ true = is in cc)
handed_act Cancelled is = absurd (let no : false ≡ true = is in cc)
handed_act MovedOut is = absurd (let no : false ≡ true = is in cc)
handed_act MovedIn is = absurd (let no : false ≡ true = is in cc)
handed_act Ticked is = absurd (let no : false ≡ true = is in cc)

-- how many were
abbrev pub handed_count : List WrittenEntry → ℕ
handed_count xs = length (filter is_handed xs)

count_append : (xs ys : List WrittenEntry)
    → handed_count (xs ++ ys) ≡ handed_count xs + handed_count ys
count_append xs ys =
    ap length (filter-append is_handed xs ys)
    ∙ length-append (filter is_handed xs) (filter is_handed ys)

pub told_append : (ls ms : List Line) → runs_told (ls ++ ms) ≡ runs_told ls + runs_told ms
told_append ls ms =
    ap length (filter-append is_run ls ms) ∙ length-append (filter is_run ls) (filter is_run ms)

-- what was armed isn't asked for in the past, and nothing moved
pub record WritesFit (now : ℕ) (x : WrittenEntry) : Type 0 where
  pub later : x.entry.act ≡ Armed → now ≤ x.entry.expires
  pub stays : x.entry.act ≡ MovedIn → ⊥

pub record TellsFit (now : ℕ) (wrote : List WrittenEntry) (told : List Line) : Type 0 where
  pub fits : All (WritesFit now) wrote
  pub count : runs_told told ≡ handed_count wrote

counted_by : (b : Bool) (x : WrittenEntry) (xs : List WrittenEntry) → is_handed x ≡ b
    → handed_count (x ∷ xs) ≡ cond b (suc (handed_count xs)) (handed_count xs)
counted_by true x xs is = rw is refl
counted_by false x xs is = rw is refl

-- AN INTERRUPT
module _ (queues : Queues) (jobs : Replies) (now runner : ℕ) where
  -- a drain that found nothing more, or nothing that arms or hands out
  quiet : (x : WrittenEntry) (xs : List WrittenEntry) (told : List Line) → hands_out x.entry.act
      ≡ false → (x.entry.act ≡ Armed → now ≤ x.entry.expires) → (x.entry.act ≡ MovedIn → ⊥)
      → TellsFit now xs told → TellsFit now (x ∷ xs) told
  quiet x xs told none later stays rest = record {
    fits = All-cons (WritesFit now) x xs (record { later = later; stays = stays }) rest.fits;
    count = rest.count ∙ sym (counted_by false x xs none);
  }

  by_act : (x : WrittenEntry) (xs : List WrittenEntry) (owed : List OwedTimer) (told : List Line)
      (on : (o : List OwedTimer) (ls : List Line) → TellsRuns queues jobs now runner xs o ls
      → TellsFit now xs ls) (act : Act) → x.entry.act ≡ act
      → TellsByAct queues jobs now runner act x (TellsRuns queues jobs now runner xs) owed told
      → TellsFit now (x ∷ xs) told
  by_act x xs owed told on Armed is h =
      quiet x xs told (ap hands_out is)
      (λ armed. let at = h.pays.expires in omega (arith, at))
      (λ moved. let no : Armed ≡ MovedIn = sym is ∙ moved in cc)
      (on h.others told h.goes_on)
  by_act x xs owed told on Handed is h =
      let rest = on _ h.behind h.goes_on in
      record {
        fits = All-cons (WritesFit now) x xs
            (record {
              later = λ armed. absurd (let no : Handed ≡ Armed = sym is ∙ armed in cc);
              stays = λ moved. let no : Handed ≡ MovedIn = sym is ∙ moved in cc;
            }) rest.fits;
        count = ap runs_told h.line
            ∙ (ap suc rest.count ∙ sym (counted_by true x xs (ap hands_out is)));
      }
  by_act x xs owed told on Cancelled is h = absurd h
  by_act x xs owed told on MovedOut is h = absurd h
  by_act x xs owed told on MovedIn is h = absurd h
  by_act x xs owed told on Ticked is h =
      quiet x xs told (ap hands_out is)
      (λ armed. absurd (let no : Ticked ≡ Armed = sym is ∙ armed in cc))
      (λ moved. let no : Ticked ≡ MovedIn = sym is ∙ moved in cc) (on owed told h)

  runs_fit : (wrote : List WrittenEntry) (owed : List OwedTimer) (told : List Line)
      → TellsRuns queues jobs now runner wrote owed told → TellsFit now wrote told
  unfolding TellsRuns
  runs_fit [] owed told h =
      record { fits = All-nil (WritesFit now); count = ap runs_told h.1 }
  runs_fit (x ∷ xs) owed told h =
      by_act x xs owed told (λ o ls rest. runs_fit xs o ls rest) x.entry.act refl h

-- OPERATIONS: what one wrote, none of which was handed out, and its line, which tells no run
record OpFits (now : ℕ) (old new : Standing) (told : Line) : Type 0 where
  more : List WrittenEntry
  wrote : new.wrote ≡ old.wrote ++ more
  fits : All (WritesFit now) more
  none : handed_count more ≡ 0
  silent : is_run told ≡ false

record OpsFit (now : ℕ) (old new : Standing) (told : List Line) : Type 0 where
  more : List WrittenEntry
  wrote : new.wrote ≡ old.wrote ++ more
  fits : All (WritesFit now) more
  none : handed_count more ≡ 0
  silent : runs_told told ≡ 0

module _ (known : Known) (now cpu : ℕ) where
  -- it wrote nothing
  wrote_none : (old new : Standing) (told : Line) → new.wrote ≡ old.wrote → is_run told ≡ false
      → OpFits now old new told
  wrote_none old new told same silent = record {
    more = [];
    wrote = same ∙ sym (append-nil old.wrote);
    fits = All-nil (WritesFit now);
    none = refl;
    silent = silent;
  }

  wrote_one : (old new : Standing) (told : Line) (x : WrittenEntry)
      → new.wrote ≡ old.wrote ++ x ∷ [] → hands_out x.entry.act ≡ false → WritesFit now x
      → is_run told ≡ false → OpFits now old new told
  wrote_one old new told x same none fits silent = record {
    more = x ∷ [];
    wrote = same;
    fits = All-cons (WritesFit now) x [] fits (All-nil (WritesFit now));
    none = counted_by false x [] none;
    silent = silent;
  }

  refused_silent : (fault : OpFault) (line : ℕ) (who : CpuId)
      → is_run (refused_line fault now line who) ≡ false
  refused_silent faults.Offline line who = refl
  refused_silent faults.NotActive line who = refl
  refused_silent faults.NotIdle line who = refl
  refused_silent faults.AlreadyOnline line who = refl
  refused_silent faults.LastOnline line who = refl
  refused_silent (faults.Queued holder) line who = refl
  refused_silent faults.NoMemory line who = refl
  refused_silent (faults.Spent made) line who = refl

  by_line : (old new : Standing) (told line : Line) → told ≡ line → is_run line ≡ false
      → new.wrote ≡ old.wrote → OpFits now old new told
  by_line old new told line is silent same =
      wrote_none old new told same (ap is_run is ∙ silent)

  done_fits : (what : What) (line : ℕ) (old new : Standing) (told : Line)
      → TellsDone known now cpu what line old new told → OpFits now old new told
  done_fits (whats.Arm timer class delay job arg) line old new told (inl h) =
      let act = h.arming.act in
      wrote_one old new told h.entry (ap (λ (s : Standing). s.wrote) h.new_is)
      (ap hands_out act) (record {
        later = λ armed. (let at = h.arming.expires in omega (arith, at));
        stays = λ moved. let no : Armed ≡ MovedIn = sym act ∙ moved in cc;
      }) (ap is_run h.line_is)
  done_fits (whats.Arm timer class delay job arg) line old new told (inr h) =
      by_line old new told _ h.line_is refl (ap (λ (s : Standing). s.wrote) h.new_is)
  done_fits (whats.Cancel timer) line old new told (inl h) =
      let act = h.cancelling.act in
      wrote_one old new told h.entry (ap (λ (s : Standing). s.wrote) h.new_is)
      (ap hands_out act) (record {
        later = λ armed. absurd (let no : Cancelled ≡ Armed = sym act ∙ armed in cc);
        stays = λ moved. let no : Cancelled ≡ MovedIn = sym act ∙ moved in cc;
      }) (ap is_run h.line_is)
  done_fits (whats.Cancel timer) line old new told (inr h) =
      by_line old new told _ h.line_is refl (ap (λ (s : Standing). s.wrote) h.new_is)
  done_fits whats.Idle line old new told (inl h) =
      by_line old new told _ h.line_is refl (ap (λ (s : Standing). s.wrote) h.new_is)
  done_fits whats.Idle line old new told (inr h) =
      by_line old new told _ h.line_is refl (ap (λ (s : Standing). s.wrote) h.new_is)
  done_fits whats.Wake line old new told h =
      by_line old new told _ h.line_is refl (ap (λ (s : Standing). s.wrote) h.new_is)
  done_fits whats.Offline line old new told h = absurd h
  done_fits whats.Online line old new told h = absurd h

  by_fault : (fault : Option OpFault) (what : What) (line : ℕ) (old new : Standing) (told : Line)
      → TellsByRefusal known now cpu fault what line old new told → OpFits now old new told
  by_fault None what line old new told h = done_fits what line old new told h
  by_fault (Some fault) what line old new told h =
      by_line old new told _ h.line_is (refused_silent fault line _)
      (ap (λ (s : Standing). s.wrote) h.new_is)

  op_fits : (online : Bool) (op : Op) (old new : Standing) (told : Line)
      → TellsOp known now cpu online op old new told → OpFits now old new told
  op_fits online op old new told h =
      by_fault (fault_of op.what online old.idle) op.what op.line old new told h

  -- one, and then others
  then_fit : (old mid new : Standing) (l : Line) (ls : List Line) → OpFits now old mid l
      → OpsFit now mid new ls → OpsFit now old new (l ∷ ls)
  then_fit old mid new l ls first rest = record {
    more = first.more ++ rest.more;
    wrote = rest.wrote ∙ (ap (λ xs. xs ++ rest.more) first.wrote
        ∙ append_assoc old.wrote first.more rest.more);
    fits = All-append (WritesFit now) first.more rest.more first.fits rest.fits;
    none = count_append first.more rest.more ∙ (λ i. first.none i + rest.none i);
    silent = told_append (l ∷ []) ls ∙ (λ i. one i + rest.silent i);
  }
    where
      one : runs_told (l ∷ []) ≡ 0
      one = rw first.silent refl

  ops_fit : (online : Bool) (ops : List Op) (old new : Standing) (told : List Line)
      → TellsOps known now cpu online ops old new told → OpsFit now old new told
  unfolding TellsOps
  ops_fit online [] old new told h = record {
    more = [];
    wrote = ap (λ (s : Standing). s.wrote) h.1 ∙ sym (append-nil old.wrote);
    fits = All-nil (WritesFit now);
    none = refl;
    silent = ap runs_told h.0;
  }
  ops_fit online (op ∷ ops) old new [] h = absurd h
  ops_fit online (op ∷ ops) old new (l ∷ ls) h =
      then_fit old h.0 new l ls (op_fits online op old h.0 l h.1)
      (ops_fit online ops h.0 new ls h.2)

  -- A SHARE, of a CPU that has written nothing yet
  due_fits : (due : Bool) (jobs : Replies) (old new : Standing) (told : List Line)
      → old.wrote ≡ [] → TellsIfDue known now cpu due jobs old new told
      → TellsFit now new.wrote told
  due_fits true jobs old new told none h =
      subst (λ xs. TellsFit now xs told)
      (sym (ap (λ (s : Standing). s.wrote) h.new_is ∙ ap (λ xs. xs ++ h.more) none))
      (runs_fit known.queues jobs now cpu h.more [] told h.interrupt.runs)
  due_fits false jobs old new told none h =
      subst (λ xs. TellsFit now xs told) (sym (ap (λ (s : Standing). s.wrote) h.1 ∙ none))
      (record { fits = All-nil (WritesFit now); count = ap runs_told h.0 })

  pub share_fits : (jobs : Replies) (due online : Bool) (ops : List Op) (old new : Standing)
      (told : List Line) → old.wrote ≡ []
      → TellsShare known now cpu jobs due online ops old new told → TellsFit now new.wrote told
  share_fits jobs due online ops old new told none h =
      let first = due_fits due jobs old h.mid h.runs none h.first in
      let rest = ops_fit online ops h.mid new h.answers h.answered in
      let sum : handed_count (h.mid.wrote ++ rest.more) ≡ handed_count h.mid.wrote
      + handed_count rest.more = count_append h.mid.wrote rest.more in
      let lines : runs_told (h.runs ++ h.answers) ≡ runs_told h.runs + runs_told h.answers =
      told_append h.runs h.answers in
      let a = first.count in
      let b = rest.none in
      let c = rest.silent in
      let count : runs_told (h.runs ++ h.answers) ≡ handed_count (h.mid.wrote ++ rest.more) =
      omega (arith, sum, lines, a, b, c) in
      record {
        fits = subst (All (WritesFit now)) (sym rest.wrote)
            (All-append (WritesFit now) h.mid.wrote rest.more first.fits rest.fits);
        count = ap runs_told h.told_are ∙ (count ∙ sym (ap handed_count rest.wrote));
      }
