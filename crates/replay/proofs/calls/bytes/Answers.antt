use Rattle.replay.proofs.calls.bytes.Goals as goal

pub returns : goal.returns
returns g c =
    let all = c.in_ok-vec.ensures.items in
    record {
      text = c.in_ok-text.text;
      values_are = simp (all, c.len.ensures, c.space.ensures);
      text_is = c.in_ok-text.ensures;
    }
