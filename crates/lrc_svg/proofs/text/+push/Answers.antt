use Rattle.lrc_svg.proofs.Rows.{element_pushed, on_ok}
use Rattle.lrc_svg.proofs.text.+push.Goals as goal

pub push_content-returns-in_ok-push_contents-in-Element : goal.push_content-returns-in_ok-push_contents-in-Element
push_content-returns-in_ok-push_contents-in-Element t c =
    on_ok c.push_close.result
    (element_pushed c.args.content.now c.in-Element.tag c.in-Element.attributes c.in-Element.inside c.args.text.now.items
    c.push_open.new.text.items c.push_contents.new.text.items c.push_close.new.text.items c.as_slice-in-Element.result.now
    c.as_slice-in-Element-2.result.now c.in-Element.is c.as_slice-in-Element.ensures.value c.as_slice-in-Element-2.ensures.value
    c.in_ok-push_open-in-Element.ensures c.in_ok-push_contents-in-Element.ensures)
    c.push_close.ensures
