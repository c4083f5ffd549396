-- What calls leave of their store, one after another.
use Rattle.std.proofs.Common.{◌≡◌, ◌≤◌, ◌∙◌, List, ℕ, arith, refl, subst, sym}
use Rattle.stn_edge.specs.Files.{OthersStay}
use Rattle.stn_edge.specs.declared.shelf.Shelf.{Ghosts}
use Rattle.store_frames.specs.Frames.{OnlyReads, ReadsAndWritesOne, WritesOne}

-- nothing was read
pub reads-none : {F : Type 0} (S : Ghosts F) (a : F) → OnlyReads S a a
reads-none S a = record { same = refl; readable = refl; writable = refl; later = omega arith; no_write = refl }

-- a call that only reads, behind another
pub reads-then : {F : Type 0} (S : Ghosts F) (a b c : F) → OnlyReads S a b → OnlyReads S b c → OnlyReads S a c
reads-then S a b c first second = record {
  same = second.same ∙ first.same;
  readable = second.readable ∙ first.readable;
  writable = second.writable ∙ first.writable;
  later = omega (arith, first.later, second.later);
  no_write = second.no_write ∙ first.no_write;
}

-- a call that writes a file, behind another that does
pub writes-then : {F : Type 0} (S : Ghosts F) (out later : List ℕ) (a b c : F) → later ≡ out → WritesOne S out a b → WritesOne S later b c → WritesOne S out a c
writes-then S out later a b c same first second = record {
  others = λ other apart. second.others other (λ is. apart (is ∙ same)) ∙ first.others other apart;
  readable = second.readable ∙ first.readable;
  writable = second.writable ∙ first.writable;
  no_read = second.no_read ∙ first.no_read;
  writes = omega (arith, first.writes, second.writes);
}

-- a call that writes a file is one that may also read
pub also-reads : {F : Type 0} (S : Ghosts F) (out : List ℕ) (a b : F) → WritesOne S out a b → ReadsAndWritesOne S out a b
also-reads S out a b is = record {
  others = is.others;
  readable = is.readable;
  writable = is.writable;
  later = omega (arith, is.no_read);
  writes = is.writes;
}

-- a call that only reads is one that may also write
pub also-writes : {F : Type 0} (S : Ghosts F) (out : List ℕ) (a b : F) → OnlyReads S a b → ReadsAndWritesOne S out a b
also-writes S out a b is = record {
  others = subst (OthersStay out (S.files a)) (sym is.same) (λ other apart. refl);
  readable = is.readable;
  writable = is.writable;
  later = is.later;
  writes = omega (arith, is.no_write);
}

-- a call that reads and writes a file, behind another that does
pub both-then : {F : Type 0} (S : Ghosts F) (out later : List ℕ) (a b c : F) → later ≡ out → ReadsAndWritesOne S out a b → ReadsAndWritesOne S later b c → ReadsAndWritesOne S out a c
both-then S out later a b c same first second = record {
  others = λ other apart. second.others other (λ is. apart (is ∙ same)) ∙ first.others other apart;
  readable = second.readable ∙ first.readable;
  writable = second.writable ∙ first.writable;
  later = omega (arith, first.later, second.later);
  writes = omega (arith, first.writes, second.writes);
}

-- nothing was done
pub both-none : {F : Type 0} (S : Ghosts F) (out : List ℕ) (a : F) → ReadsAndWritesOne S out a a
both-none S out a = also-writes S out a a (reads-none S a)

-- a call that writes a file, clause by clause
pub item-put : {F : Type 0} (S : Ghosts F) (out : List ℕ) (a b : F) → OthersStay out (S.files a) (S.files b) → S.may_read b ≡ S.may_read a → S.may_write b ≡ S.may_write a → S.read_faults b ≡ S.read_faults a → S.write_faults a ≤ S.write_faults b
    → ReadsAndWritesOne S out a b
item-put S out a b others readable writable no_read writes = record { others = others; readable = readable; writable = writable; later = omega (arith, no_read); writes = writes }
