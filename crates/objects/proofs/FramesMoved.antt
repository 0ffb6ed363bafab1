-- A frame whose places count in the file.
use Rattle.std.proofs.Common.{◌≡◌, ℕ, ◌+◌, ◌-◌, ◌≤◌, length, IfErr, Ok, Err, Result, sym, ap, ◌∙◌, arith}
use Rattle.faults.specs.declared.fault.Fault.{Fault}
use Rattle.format.specs.Bytes.{Bytes, bad, up_to}
use Rattle.format.specs.Frames.{frame}
use Rattle.objects.specs.declared.frame.Frame.{Frame}
use Rattle.objects.specs.Framing.{framed, Ordered, moved_frame, framed_at, FrameLies}
use Rattle.objects.specs.Shifts.{later_fault, later_frame}
use Rattle.objects.proofs.ShiftedFrames.{frame_later}
use Rattle.objects.proofs.PlacesOfFrames.{faults_within}

-- a frame at another base
at_base : (b : ℕ) (src : Bytes) → later_frame b (frame 0 src) ≡ frame b src
at_base b src = let z : b + 0 ≡ b = omega arith in sym (frame_later b 0 src) ∙ ap (λ p. frame p src) z

pub frame_moved : (b : ℕ) (src : Bytes) (f r : Frame) → framed src (Ok f) ≡ frame 0 src → Ordered (length src) f → r ≡ moved_frame b f →
    (framed_at b src (Ok r) ≡ frame b src) × FrameLies b (length src) r
unfolding up_to
frame_moved b src f r e (l, m, n) z =
    let i : (b + f.end) - (b + f.start) ≡ f.end - f.start = omega arith in
    let j : (b + f.start) - b ≡ f.start = omega arith in
    let k : (b + f.behind) - b ≡ f.behind = omega arith in
    rw z (rw (i, j, k) (ap (later_frame b) e ∙ at_base b src), (omega arith, omega arith, omega arith, omega arith))

-- a fault at another base
pub fault_moved : (b : ℕ) (src : Bytes) (f g : Fault) → bad f ≡ frame 0 src → g ≡ later_fault b f → bad g ≡ frame b src
fault_moved b src f g e z = rw z (ap (later_frame b) e ∙ at_base b src)

pub fault_within : (src : Bytes) (r : Result Frame Fault) → framed src r ≡ frame 0 src → IfErr r (λ f. f.place ≤ length src)
fault_within src (Ok f) e = tt
fault_within src (Err f) e = let h = faults_within.frames 0 src f (sym e) in omega arith
