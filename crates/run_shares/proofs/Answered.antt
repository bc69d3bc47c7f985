-- a line of a CPU, by what its call made of the pass
use Rattle.std.specs.Prelude.{Result, Ok, Err, IfOk, MatchResult}
use Rattle.std.proofs.Common.{◌≡◌, ◌≢◌, ℕ, ◌<◌, List, [], Some, None, Option, Bool, refl, sym, ap}
use Rattle.std.proofs.Common.{◌∙◌, subst, append-nil, arith}
use Rattle.atomic_table.specs.Seated.{TableId}
use Rattle.tm_base.specs.declared.faults.OpFault.{OpFault}
use Rattle.tm_base.specs.declared.faults.OpFault.TheVariants as faults
use Rattle.tm_base.specs.declared.faults.NoMemory.{NoMemory}
use Rattle.tm_base.specs.declared.names.CpuId.{CpuId}
use Rattle.tm_script.specs.declared.syntax.What.{What}
use Rattle.tm_report.specs.declared.lines.Line.{Line}
use Rattle.cpu_bases.specs.declared.entry.Entry.{Entry}
use Rattle.core_world.specs.World.{World, cpu_of}
use Rattle.idle_wakeup.specs.shared_rule.declared.parts.PassView.{PassView}
use Rattle.idle_wakeup.specs.shared_rule.Passes.{HeldPass, IsPassIn, knowing}
use Rattle.idle_wakeup.specs.shared_rule.Shows.{BeginsWith}
use Rattle.idle_wakeup.specs.shared_table.declared.ready.TheConstants.{MOST_MADE}
use Rattle.play_rules.specs.Interrupts.{cpu_id}
use Rattle.play_rules.specs.Operations.{refused_line}
use Rattle.run_story.specs.Shares.{Standing, TellsByRefusal, TellsDone, fault_of}
use Rattle.run_shares.specs.Doing.{by_pass}
use Rattle.run_shares.specs.Standing.{PassGrows, HasAnswered, MayAnswer, StandsBy}
use Rattle.run_shares.proofs.Stands.{stands_as}

-- WHAT IS KNOWN before a line of a CPU
pub record IsBefore (table : TableId) (o : World) (held : HeldPass) (p : PassView) : Type 0 where
  pub had : IsPassIn table held p
  pub own : p.cpu ≡ held.cpu
  pub opening : p.opening ≡ o

-- and of the pass after it
pub record IsAfter (table : TableId) (held after : HeldPass) (q : PassView) : Type 0 where
  pub has : IsPassIn table after q
  pub same_cpu : after.cpu ≡ held.cpu

module _ (table : TableId) (o : World) (now line : ℕ) (what : What) (held after : HeldPass)
    (p q : PassView) (before : IsBefore table o held p) (later : IsAfter table held after q)
    (told : Line) where
  -- by what the CPU refuses, as the pass knows it
  by_fault : (fault : Option OpFault) → fault_of what (cpu_of o held.cpu).online p.idle ≡ fault
      → PassGrows 1 p q
      → ((s : Standing) → StandsBy p s →
      (t : Standing) × StandsBy q t × TellsByRefusal (by_pass o q) now held.cpu fault what line s t told)
      → HasAnswered table o now what line held after told
  by_fault fault is grows goes = record {
    before = p;
    later = q;
    had = before.had;
    has = later.has;
    same_cpu = later.same_cpu;
    grows = grows;
    goes = λ s by.
        let t = goes s by in (
          t.0,
          t.1,
          subst (λ (m : Option OpFault). TellsByRefusal (by_pass o q) now held.cpu m what line s t.0 told)
              (sym is ∙ ap (λ (b : Bool). fault_of what (cpu_of o held.cpu).online b) by.idle) t.2,
        );
  }

  -- it refuses nothing
  pub answered : fault_of what (cpu_of o held.cpu).online p.idle ≡ None → PassGrows 1 p q
      → ((s : Standing) → StandsBy p s →
      (t : Standing) × StandsBy q t × TellsDone (by_pass o q) now held.cpu what line s t told)
      → HasAnswered table o now what line held after told
  answered is grows goes = by_fault None is grows goes

-- a pass that just knows its CPU's journal further has grown
pub grown_knowing : (p : PassView) (journal : List Entry) → BeginsWith journal p.journal
    → PassGrows 1 p (knowing journal p)
grown_knowing p journal begins = record {
  opening = refl;
  cpu = refl;
  inside = refl;
  receipts = [];
  receipts_are = sym (append-nil p.receipts);
  did = [];
  did_are = sym (append-nil p.did);
  journal = begins;
  few = omega arith;
}

-- A REFUSAL by the CPU
pub refused : (table : TableId) (o : World) (now line : ℕ) (what : What) (held after : HeldPass)
    (p : PassView) (journal : List Entry) → IsBefore table o held p
    → IsAfter table held after (knowing journal p) → BeginsWith journal p.journal
    → (fault : OpFault) → fault_of what (cpu_of o held.cpu).online p.idle ≡ Some fault
    → HasAnswered table o now what line held after
    (refused_line fault now line (cpu_id held.cpu))
refused table o now line what held after p journal before later begins fault is =
    by_fault table o now line what held after p (knowing journal p) before later
    (refused_line fault now line (cpu_id held.cpu)) (Some fault) is (grown_knowing p journal begins)
    (λ s by. (
      record s { idle = p.idle; wakeup = p.wakeup },
      stands_as p (knowing journal p) s begins refl refl by,
      record {
        line_is = refl;
        new_is = λ i. record s { idle = by.idle i; wakeup = by.wakeup i };
      },
    ))

-- the line of a refusal, or want of memory
pub by_refusal : (P : Line → Type 0) (fault : OpFault) (now line cpu : ℕ) (id : CpuId)
    → id.0 ≡ cpu → (fault ≢ faults.NoMemory → P (refused_line fault now line (cpu_id cpu)))
    → (result : Result Line NoMemory)
    → MatchResult result
    (λ told. (fault ≢ faults.NoMemory) × (told ≡ refused_line fault now line id))
    (λ e. fault ≡ faults.NoMemory) → IfOk result P
by_refusal P fault now line cpu id same holds (Ok told) is =
    subst P (sym (is.1 ∙ ap (λ n. refused_line fault now line (cpu_id n)) same)) (holds is.0)
by_refusal P fault now line cpu id same holds (Err e) is = tt

-- a line that names the CPU by its own number
pub by_line : (P : Line → Type 0) (f : CpuId → Line) (id : CpuId) (cpu : ℕ) (told : Line)
    → id.0 ≡ cpu → told ≡ f id → P (f (cpu_id cpu)) → P told
by_line P f id cpu told same is holds =
    subst P (sym (is ∙ ap (λ n. f (cpu_id n)) same)) holds

-- what may answer is known
pub known : (table : TableId) (o : World) (walks : ℕ) (held : HeldPass)
    (may : MayAnswer table o walks held) → IsBefore table o held may.pass
known table o walks held may =
    record { had = may.seated; own = may.own; opening = may.opening }

-- and a walk is left
pub left : (table : TableId) (o : World) (held : HeldPass) (may : MayAnswer table o 1 held)
    → may.pass.walks < MOST_MADE
left table o held may = let few = may.few in omega (arith, few)
