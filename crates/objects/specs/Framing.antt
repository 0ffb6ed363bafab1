-- What the readers of frames answer, as the definitions say it.
use Rattle.std.specs.Prelude.{ℕ, ◌+◌, ◌-◌, ◌≤◌, false, take, drop, Ok, Err, codes, Result}
use Rattle.faults.specs.declared.fault.Fault.{Fault}
use Rattle.format.specs.Bytes.{Bytes, Got, ok, bad, then, up_to}
use Rattle.format.specs.Space.{skip}
use Rattle.format.specs.Tokens.{token_at}
use Rattle.format.specs.Frames.{Framed, the_int, the_word, framed_body}
use Rattle.objects.specs.declared.frame.Frame.{Frame}

abbrev pub int_got : Bytes → Result (ℕ × ℕ) Fault → Got ℕ
int_got src (Ok x) = ok x.0 x.1 (drop x.1 src)
int_got src (Err f) = bad f

-- a frame that was read in the bytes src
abbrev pub framed : Bytes → Result Frame Fault → Got Framed
framed src (Ok f) = ok (record { number = f.number; gen = f.generation; start = f.start; body = up_to f.start (drop f.start src) f.end }) f.behind (drop f.behind src)
framed src (Err f) = bad f

-- a frame behind its number
abbrev pub head_of : ℕ → ℕ → Bytes → Got Framed
head_of n p xs =
    then (the_int (token_at p xs))
    (λ g p₂ xs₂. then (the_word (codes "obj") (token_at p₂ xs₂)) (λ _ p₃ xs₃. framed_body n g (skip false p₃ xs₃)))

-- the places of a frame, one after the other, in bytes that end at n
abbrev pub Ordered : ℕ → Frame → Type 0
Ordered n f = (f.start ≤ f.end) × (f.end ≤ f.behind) × (f.behind ≤ n)

-- a frame with every place later by b
abbrev pub moved_frame : ℕ → Frame → Frame
moved_frame b f = record { number = f.number; generation = f.generation; start = b + f.start; end = b + f.end; behind = b + f.behind }

-- a frame that was read in the bytes src, which start at the place b of the file; its places count in the file
abbrev pub framed_at : ℕ → Bytes → Result Frame Fault → Got Framed
framed_at b src (Ok f) =
    ok (record { number = f.number; gen = f.generation; start = f.start; body = take (f.end - f.start) (drop (f.start - b) src) }) f.behind (drop (f.behind - b) src)
framed_at b src (Err f) = bad f

-- the places of a frame, one after the other, in n bytes that start at the place b of the file
abbrev pub FrameLies : ℕ → ℕ → Frame → Type 0
FrameLies b n f = (b ≤ f.start) × (f.start ≤ f.end) × (f.end ≤ f.behind) × (f.behind ≤ b + n)
