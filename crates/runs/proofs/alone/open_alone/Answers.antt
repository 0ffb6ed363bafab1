use Rattle.runs.proofs.Extracting.{not_refused, extract_opened, extract_opens}
use Rattle.runs.proofs.alone.open_alone.Goals as goal

pub returns-in-Ok : goal.returns-in-Ok
returns-in-Ok g c =
    let drawn = not_refused g.S.Store.meaning g.T.Store.meaning c.args.book.now c.args.k c.args.out c.draw_alone.new.out c.draw_alone.result c.in_default.not-Err c.draw_alone.ensures in
    extract_opened g.S.Store.meaning g.T.Store.meaning c.args.book.now c.args.k c.args.out c.draw_alone.new.out tt drawn.0 drawn.1 c.new-alone.result c.new-alone.ensures.store c.new-alone.ensures.shut c.open.new.self c.in-Ok.ensures.performs

pub returns-in-Err-open : goal.returns-in-Err-open
returns-in-Err-open g c =
    let drawn = not_refused g.S.Store.meaning g.T.Store.meaning c.args.book.now c.args.k c.args.out c.draw_alone.new.out c.draw_alone.result c.in_default.not-Err c.draw_alone.ensures in
    absurd (extract_opens g.S.Store.meaning g.T.Store.meaning c.args.book.now c.args.k c.args.out c.draw_alone.new.out tt drawn.0 drawn.1 c.new-alone.result c.new-alone.ensures.store c.new-alone.ensures.shut c.open.new.self c.in-Err-open.fault c.in-Err-open.ensures.performs)
