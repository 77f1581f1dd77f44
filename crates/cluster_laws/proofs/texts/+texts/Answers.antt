use Rattle.cluster_laws.proofs.OtherTexts.{texts-Between, texts-Case}
use Rattle.cluster_laws.proofs.texts.+texts.Goals as goal

pub form_texts-returns-in-Between : goal.form_texts-returns-in-Between
form_texts-returns-in-Between t c = texts-Between _ _ _ _ _ c.in-Between.is c.boxed_texts-in-Between.ensures c.boxed_texts-in-Between-2.ensures c.boxed_texts-in-Between-3.ensures

pub form_texts-returns-in-Case : goal.form_texts-returns-in-Case
form_texts-returns-in-Case t c = texts-Case _ _ _ _ c.in-Case.is c.part_texts.ensures c.each_when_texts.ensures c.part_texts-in-Case.ensures
