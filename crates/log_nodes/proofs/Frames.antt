-- What a store is left with by several calls.
use Rattle.std.proofs.Common.{◌≡◌, ◌∙◌, List, ℕ, Option, refl, sym, subst, arith}
use Rattle.stn_edge.specs.Files.{FileMap, OthersStay}
use Rattle.stn_edge.specs.declared.shelf.Shelf.{Ghosts}
use Rattle.store_frames.specs.Frames.{OnlyReads, ReadsAndWritesOne, WritesOne}

-- reading after reading
pub reads-then : {F : Type 0} {S : Ghosts F} {a b c : F} → OnlyReads S a b → OnlyReads S b c → OnlyReads S a c
reads-then first second = record {
  same = second.same ∙ first.same;
  readable = second.readable ∙ first.readable;
  writable = second.writable ∙ first.writable;
  later = omega (arith, first.later, second.later);
  no_write = second.no_write ∙ first.no_write;
}

-- other files stay as they are from one change to the next, where the name stays that of the file which changes
pub others-then : (out later : List ℕ) (a b c : Option FileMap) → later ≡ out → OthersStay out a b → OthersStay later b c → OthersStay out a c
others-then out later a b c same first second = λ other apart. second other (λ is. apart (is ∙ same)) ∙ first other apart

-- writing after writing
pub writes-then : {F : Type 0} {S : Ghosts F} {name later : List ℕ} {a b c : F} → later ≡ name → WritesOne S name a b → WritesOne S later b c → WritesOne S name a c
writes-then {F} {S} {name} {later} {a} {b} {c} same first second = record {
  others = others-then name later (S.files a) (S.files b) (S.files c) same first.others second.others;
  readable = second.readable ∙ first.readable;
  writable = second.writable ∙ first.writable;
  no_read = second.no_read ∙ first.no_read;
  writes = omega (arith, first.writes, second.writes);
}

-- nothing was done
pub none-done : {F : Type 0} {S : Ghosts F} {name : List ℕ} {a : F} → ReadsAndWritesOne S name a a
none-done = record { others = λ other apart. refl; readable = refl; writable = refl; later = omega arith; writes = omega arith }

-- what only reads, or only writes, leaves no less
pub both-reads : {F : Type 0} {S : Ghosts F} {name : List ℕ} {a b : F} → OnlyReads S a b → ReadsAndWritesOne S name a b
both-reads {F} {S} {name} {a} frame = record {
  others = subst (λ (files : Option FileMap). OthersStay name (S.files a) files) (sym frame.same) (λ other apart. refl);
  readable = frame.readable;
  writable = frame.writable;
  later = frame.later;
  writes = omega (arith, frame.no_write);
}

pub both-writes : {F : Type 0} {S : Ghosts F} {name : List ℕ} {a b : F} → WritesOne S name a b → ReadsAndWritesOne S name a b
both-writes frame = record {
  others = frame.others;
  readable = frame.readable;
  writable = frame.writable;
  later = omega (arith, frame.no_read);
  writes = frame.writes;
}

-- both, after both
pub both-then : {F : Type 0} {S : Ghosts F} {name later : List ℕ} {a b c : F} → later ≡ name → ReadsAndWritesOne S name a b → ReadsAndWritesOne S later b c → ReadsAndWritesOne S name a c
both-then {F} {S} {name} {later} {a} {b} {c} same first second = record {
  others = others-then name later (S.files a) (S.files b) (S.files c) same first.others second.others;
  readable = second.readable ∙ first.readable;
  writable = second.writable ∙ first.writable;
  later = omega (arith, first.later, second.later);
  writes = omega (arith, first.writes, second.writes);
}
