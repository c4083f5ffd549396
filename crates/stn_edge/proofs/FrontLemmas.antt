-- A file that is read piece by piece, where the store may not tell it.
use Rattle.std.proofs.Common.{◌≡◌, ℕ, ◌+◌, ◌<◌, List, ◌++◌, length, take, Option, None, Some, IfSome, refl, sym, ◌∙◌, arith}
use Rattle.std.proofs.Math.Seq.{take-add}
use Rattle.std.proofs.lemmas.List.{take_all}
use Rattle.stn_edge.specs.Files.{FileMap, file_of, IsPiece}

-- the bytes are the first n of the file
abbrev pub IsFront : Option FileMap → List ℕ → List ℕ → ℕ → Type 0
IsFront told name bytes n = IfSome told (λ files. bytes ≡ take n (file_of files name))

-- the piece is one of the file from a place on
abbrev pub IsNext : Option FileMap → List ℕ → ℕ → List ℕ → ℕ → Type 0
IsNext told name place into n = IfSome told (λ files. IsPiece (file_of files name) place into n)

-- where nothing more is read, the front is the whole file
pub front_whole : (told : Option FileMap) (name bytes into : List ℕ) (n : ℕ)
    → IsFront told name bytes n → IsNext told name n into 0 → 0 < length into
    → IfSome told (λ files. bytes ≡ file_of files name)
front_whole None name bytes into n front next room = tt
front_whole (Some files) name bytes into n front next room =
    front ∙ take_all n (file_of files name) ((next.at_end room).0 refl)

-- a piece that goes past the limit shows a longer file
pub next_longer : (told : Option FileMap) (name into : List ℕ) (place n limit : ℕ)
    → IsNext told name place into n → 0 < n → limit < place + n
    → IfSome told (λ files. limit < length (file_of files name))
next_longer None name into place n limit next some over = tt
next_longer (Some files) name into place n limit next some over = omega (arith, next.within)

-- a front and the next piece are a longer front
pub front-next : (told told' : Option FileMap) (name bytes into whole : List ℕ) (place n count : ℕ)
    → IsFront told name bytes place → told' ≡ told → IsNext told' name place into n
    → whole ≡ bytes ++ take n into → count ≡ place + n → IsFront told name whole count
front-next None told' name bytes into whole place n count front same next grown more = tt
front-next (Some files) told' name bytes into whole place n count front same next grown more =
    let piece : IsNext (Some files) name place into n = rw same at next in
    rw (grown, more, front, piece.bytes) (sym (take-add place n (file_of files name)))
