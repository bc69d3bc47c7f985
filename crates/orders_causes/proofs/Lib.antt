mod GroupLaws
