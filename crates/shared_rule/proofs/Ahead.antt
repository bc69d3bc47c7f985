-- for crates above: bases that a journal makes have no clock past the jiffy after its last entry's
use Rattle.std.proofs.Common.{◌≡◌, ℕ, ◌+◌, ◌≤◌, List, [], ◌∷◌, Option, Some, None, refl, subst}
use Rattle.std.proofs.Common.{sym, arith, inl, inr}
use Rattle.std.specs.Prelude.{nat_le}
use Rattle.std.proofs.lemmas.Bool.{cases_Bool, leb-true}
use Rattle.std.proofs.lemmas.Option.{none-some}
use Rattle.tm_base.specs.declared.names.Class.{Class}
use Rattle.tm_base.specs.declared.names.Class.TheVariants.{Pinned, Global, Deferrable}
use Rattle.wheel_core.specs.declared.item.Item.{Item}
use Rattle.wheel_core.specs.PlainBase.{PlainBase, after_out, first_out, least, next_out, out_at}
use Rattle.wheel_core.proofs.HandOut.{goes_out}
use Rattle.wheel_core.proofs.Plain.{clock-forwarded_le}
use Rattle.cpu_bases.specs.declared.entry.Act.{Act}
use Rattle.cpu_bases.specs.declared.entry.Act.TheVariants.{Armed, Handed, Cancelled}
use Rattle.cpu_bases.specs.declared.entry.Act.TheVariants.{MovedOut, MovedIn, Ticked}
use Rattle.cpu_bases.specs.declared.entry.Entry.{Entry}
use Rattle.cpu_bases.specs.ByClass.{ByClass, of_class}
use Rattle.cpu_bases.specs.Journals.{LegalUpTo, TimesNeverFall, last_time}
use Rattle.cpu_bases.specs.CpuBases.{CpuBases, NotAhead, base_of, empty_bases}
use Rattle.cpu_bases.specs.Replay.{IsPlayed, redo, redone, replay}
use Rattle.cpu_bases.proofs.Classes.{each_with}

-- what goes out is due, also where nothing is known of the items
out_due : (at : ℕ) (first : Option ℕ) (items : List Item) (item : Item)
    → out_at at first items ≡ Some item → item.wheel ≤ at
out_due at None items item is = absurd (none-some item is)
out_due at (Some wheel) items item is =
    elim (cases_Bool (nat_le wheel at)) [
      | inl due ↦
          let out : first_out wheel items ≡ Some item = rw due at is in
          let same = (goes_out wheel items item out).wheel_is in
          let by = leb-true wheel at due in
          omega (arith, same, by)
      | inr later ↦
          let none : None ≡ Some item = rw later at is in
          absurd (none-some item none)
    ]

-- from this time on no entry is earlier, and none is past the last
first_in_time : (now time : ℕ) (journal : List Entry) → TimesNeverFall time journal
    → last_time time journal ≤ now → time ≤ now
first_in_time now time [] rise last = last
first_in_time now time (entry ∷ journal) rise last =
    let later = first_in_time now entry.at journal rise.1 last in
    let here = rise.0 in
    omega (arith, later, here)

module _ (now : ℕ) where
  out_near : (at : ℕ) (base : PlainBase) (out : Option Item) → next_out at base ≡ out → at ≤ now
      → NotAhead now base → NotAhead now (after_out base out)
  out_near at base None is soon near = near
  out_near at base (Some item) is soon near =
      let due = out_due at (least base.items) base.items item is in
      omega (arith, due, soon, near)

  redone_near : (act : Act) (entry : Entry) (base : PlainBase) → entry.at ≤ now
      → NotAhead now base → NotAhead now (redone act entry base)
  redone_near Armed entry base soon near =
      let clock = clock-forwarded_le entry.at base in
      omega (arith, clock, soon, near)
  redone_near MovedIn entry base soon near =
      let clock = clock-forwarded_le (entry.at + 1) base in
      omega (arith, clock, soon, near)
  redone_near Handed entry base soon near =
      out_near entry.at base (next_out entry.at base) refl soon near
  redone_near Cancelled entry base soon near = near
  redone_near MovedOut entry base soon near = near
  redone_near Ticked entry base soon near = near

  -- no clock is past the jiffy after now
  abbrev AllNear : ByClass PlainBase → Type 0
  AllNear bases = (class : Class) → NotAhead now (of_class class bases)

  replay_near : (journal : List Entry) (time : ℕ) (bases : ByClass PlainBase)
      → TimesNeverFall time journal → last_time time journal ≤ now → AllNear bases
      → AllNear (replay journal bases)
  replay_near [] time bases rise last near = near
  replay_near (entry ∷ journal) time bases rise last near =
      let soon = first_in_time now entry.at journal rise.1 last in
      let base = of_class entry.class bases in
      replay_near journal entry.at (redo entry bases) rise.1 last
      (each_with (λ k b. NotAhead now b) entry.class (redone entry.act entry base) bases
      (redone_near entry.act entry base soon (near entry.class)) (λ k other. near k))

  empty_near : AllNear empty_bases.bases
  empty_near Pinned = omega arith
  empty_near Global = omega arith
  empty_near Deferrable = omega arith

  -- the bases of a legal journal, none of whose times is past now
  pub not_ahead : (c : ℕ) (cpu : CpuBases) → IsPlayed cpu → LegalUpTo c now cpu.journal
      → (class : Class) → NotAhead now (base_of class cpu)
  not_ahead c cpu played upto class =
      subst (λ b. NotAhead now (of_class class b)) (sym played.bases)
      (replay_near cpu.journal 0 empty_bases.bases upto.legal.times_never_fall upto.not_past
      empty_near class)
